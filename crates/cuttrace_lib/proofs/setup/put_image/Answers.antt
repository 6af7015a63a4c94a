use mathlib.Core.Path.{refl}
use Rattle.cuttrace_lib.specs.Setup.{mark}
use Rattle.cuttrace_lib.proofs.Begun.{marked}
use Rattle.lists.specs.Lists.{into}
use Rattle.cuttrace_lib.proofs.setup.put_image.Goals as goal

pub returns-in-None : goal.returns-in-None
unfolding mark into
returns-in-None c = marked c.args.image.now _ _ c.in-None.is c.requires c.fill.ensures refl

pub returns-in-Sram : goal.returns-in-Sram
unfolding mark
returns-in-Sram c = marked c.args.image.now _ _ c.in-Sram.is c.requires c.fill.ensures c.copy.ensures

pub returns-in-Flash64 : goal.returns-in-Flash64
unfolding mark
returns-in-Flash64 c = marked c.args.image.now _ _ c.in-Flash64.is c.requires c.fill.ensures c.copy-in-Flash64.ensures

pub returns-in-Flash128 : goal.returns-in-Flash128
unfolding mark
returns-in-Flash128 c = marked c.args.image.now _ _ c.in-Flash128.is c.requires c.fill.ensures c.copy-in-Flash128.ensures

pub returns-in-Eeprom512 : goal.returns-in-Eeprom512
unfolding mark
returns-in-Eeprom512 c = marked c.args.image.now _ _ c.in-Eeprom512.is c.requires c.fill.ensures c.copy-in-Eeprom512.ensures

pub returns-in-Eeprom8k : goal.returns-in-Eeprom8k
unfolding mark
returns-in-Eeprom8k c = marked c.args.image.now _ _ c.in-Eeprom8k.is c.requires c.fill.ensures c.copy-in-Eeprom8k.ensures
