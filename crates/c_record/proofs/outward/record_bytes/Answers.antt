-- `c_record::outward::record_bytes` meets its contract. Assumes nothing.
use Rattle.c_record.proofs.RecordBytes.{record-spelled}
use Rattle.c_record.proofs.outward.record_bytes.Goals as goal

pub returns : goal.returns
returns c =
    let k = c in
    let b = k in
    record-spelled b.args.cart k.kind_number.result c.bit.result c.part_number.result b.chip_bytes-b.result k.kind_number.ensures c.bit.ensures c.part_number.ensures b.chip_bytes-b.ensures
