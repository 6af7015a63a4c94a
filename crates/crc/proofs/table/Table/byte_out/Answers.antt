-- `crc::table::Table::byte_out` meets its contract. Assumes nothing.
use Rattle.crc.proofs.Polynomial.{by-table}
use Rattle.crc.proofs.table.Table.byte_out.Goals as goal

pub returns : goal.returns
returns c = let a = c.args in by-table a.self.numbers.now a.v a.self.right
