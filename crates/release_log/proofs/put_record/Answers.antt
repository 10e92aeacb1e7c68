-- `release_log::put_record` meets its contract: flag, request ID, address and packet are stored one behind the other.
use Rattle.release_log.proofs.Putting.{record_is}
use Rattle.release_log.proofs.put_record.Goals as goal

pub returns : goal.returns
returns c =
    let a = c.args in
    record_is a.log.now a.at (record { flag = a.flag; id = a.id; addr = a.addr; packet = a.packet.now })
    c.write.ensures
    c.write-2.ensures
    c.put_bytes.ensures
