-- `matcher::searching::search` meets its contract. Assumes nothing.
use mathlib.Core.Path.{sym, ap, ◌∙◌}
use Rattle.matcher.specs.declared.Matcher.{Matcher}
use Rattle.matcher.specs.Reading.{reads}
use Rattle.matcher.proofs.Deciding.{code-found, read_found}
use Rattle.matcher.proofs.searching.search.Goals as goal

pub returns-then-code_decides : goal.returns-then-code_decides
returns-then-code_decides c =
    let image = c.args.image.now in
    code-found image c.finish.result c.start.result
    (sym c.code_decides.ensures ∙ c.if-code_decides.true)
    c.finish.ensures

pub returns : goal.returns
returns c =
    let image = c.args.image.now in
    read_found image c.finish-2.result c.feed-read.result
    (sym c.code_decides.ensures ∙ c.if-code_decides.false)
    (c.feed-read.ensures ∙ ap (λ (m : Matcher). reads m image) c.start-2.ensures)
    c.finish-2.ensures
