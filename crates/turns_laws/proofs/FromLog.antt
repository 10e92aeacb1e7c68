-- A reader of the log that a handout fills finds the records that were handed out, each where its offset says.
use Prim.Native.Nat.{◌≤◌, suc, zero, ℕ}
use Rattle.release_log.proofs.ReadBack.{Plain, read_back}
use Rattle.release_log.specs.Log.{log_bytes, max_log_bytes, total}
use Rattle.release_log.specs.Reading.{read_log}
use Rattle.slots.specs.Pools.{Pool}
use Rattle.rows.specs.Entries.{Entry}
use Rattle.turn.specs.Turns.{handout}
use Rattle.turns_laws.proofs.Largest.{largest}
use Rattle.turns_laws.proofs.Split.{splits}
use Rattle.handing.specs.Handing.{turns}
use Rattle.turns_laws.specs.Laws.{WordsIn}
use lib.ListN.{length, take}
use lib.Seq.{sets}
use mathlib.Core.Bool.{Bool}
use mathlib.Core.List.{List, [], ◌∷◌}
use mathlib.Core.Path.{◌≡◌}
use native.Mathlib.Omega.{arith}

plain_turns : (after : List Pool → ℕ → List Pool) (on : Entry → Bool) (m : ℕ) (es : List Entry) (ps : List Pool) → WordsIn es
    → Plain (turns after on (take m es) ps)
unfolding turns
plain_turns after on zero es ps w = tt
plain_turns after on (suc m) [] ps w = tt
plain_turns after on (suc m) (e ∷ es) ps w = (record { id_fits = w.0; addr_fits = w.1 }, plain_turns after on m es (after ps e.addr) w.2)

-- what a handout puts into the log: numbers that fit into their bytes, and no more than the log's used part holds
pub log_holds : (after : List Pool → ℕ → List Pool) (on : Entry → Bool) (ck limit cap : ℕ) (es : List Entry) (ps : List Pool) → 8 ≤ cap → WordsIn es
    → Plain (handout after on ck limit 8 cap es ps).records × (total (handout after on ck limit 8 cap es ps).records ≤ cap)
log_holds after on ck limit cap es ps h w =
    let m = length (handout after on ck limit 8 cap es ps).records in
    let s = splits after on ck limit 8 cap es ps in
    rw s.records_are (plain_turns after on m es ps w, (largest after on ck limit cap es ps h).fits)

pub log_reads : (after : List Pool → ℕ → List Pool) (on : Entry → Bool) (ck limit cap : ℕ) (log : List ℕ) (es : List Entry) (ps : List Pool)
    → 8 ≤ cap → cap ≤ length log → cap ≤ max_log_bytes → WordsIn es
    → read_log (sets log 0 (log_bytes (handout after on ck limit 8 cap es ps).records)) ≡ (handout after on ck limit 8 cap es ps).records
log_reads after on ck limit cap log es ps h l b w =
    let r = log_holds after on ck limit cap es ps h w in
    let f = r.1 in
    read_back log _ r.0 (omega arith) (omega arith)
