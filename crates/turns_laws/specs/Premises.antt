-- What repeated ticks ask can be had: the room is what the records take and no more, the ticks are the fewest, the size is one of the setup's.
use Rattle.std.specs.Prelude.{◌*◌, ◌<◌, ◌≤◌, ℕ, length, replicate, ◌≡◌}
use Rattle.layout.specs.Layout.{size_at}
use Rattle.layout.specs.Limits.{max_slot_size}
use Rattle.layout.specs.declared.Setup.{Setup}
use Rattle.release_log.specs.Log.{LogRecord, max_log_bytes, total}
use Rattle.turns_laws.specs.Draining.{largest_slot, room_for, rounded_up}

-- a log of k records with packets of `big` bytes takes that room: its total is as much. The used part of a log has it for 254 records of the
-- largest slot that 01 allows, and not for 255
pub record RoomToBeHad : Type 0 where
  pub taken : (k : ℕ) (r : LogRecord) → room_for k (length r.packet) ≡ total (replicate k r)
  pub had : (k big : ℕ) → k ≤ 254 → big ≤ max_slot_size → room_for k big ≤ max_log_bytes
  pub most : max_log_bytes < room_for 255 max_slot_size

-- n ticks with limit k can hand out n * k entries: where no more are due, no more than n ticks are asked for
unfoldable pub FewestTicks : Type 0
FewestTicks = (d k n : ℕ) → 1 ≤ k → d ≤ n * k → rounded_up d k ≤ n

-- the largest slot is one of the setup's
pub record LargestIsOne (su : Setup) : Type 0 where
  pub subpool : ℕ
  pub there : 1 ≤ su.pools → subpool < su.pools
  pub size : size_at su subpool ≡ largest_slot su
