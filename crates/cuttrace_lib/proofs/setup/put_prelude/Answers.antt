use mathlib.Core.Path.{refl}
use Rattle.cuttrace_lib.specs.Setup.{prelude}
use Rattle.cuttrace_lib.proofs.Begun.{none-begun, load-begun}
use Rattle.cuttrace_lib.proofs.setup.put_prelude.Goals as goal

pub returns-in-None : goal.returns-in-None
unfolding prelude
returns-in-None c = none-begun c.args.list.now c.in-None.is refl

pub returns-in-Sram : goal.returns-in-Sram
unfolding prelude
returns-in-Sram c = none-begun c.args.list.now c.in-Sram.is refl

pub returns-in-Flash64 : goal.returns-in-Flash64
unfolding prelude
returns-in-Flash64 c = none-begun c.args.list.now c.in-Flash64.is refl

pub returns-in-Flash128 : goal.returns-in-Flash128
unfolding prelude
returns-in-Flash128 c = none-begun c.args.list.now c.in-Flash128.is refl

pub returns-in-Eeprom512 : goal.returns-in-Eeprom512
unfolding prelude
returns-in-Eeprom512 c = none-begun c.args.list.now c.in-Eeprom512.is refl

pub returns-in-Eeprom8k : goal.returns-in-Eeprom8k
returns-in-Eeprom8k c = load-begun c.args.list.now c.in-Eeprom8k.is c.put_load.ensures
