use Rattle.cuttrace_lib.proofs.Begun.{loaded}
use Rattle.cuttrace_lib.proofs.setup.put_load.Goals as goal

pub returns : goal.returns
returns c = loaded c.args.list.now _ _ c.requires c.fill.ensures c.copy.ensures
