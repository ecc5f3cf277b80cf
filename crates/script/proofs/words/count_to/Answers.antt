-- `script::words::count_to` meets its contract: what `position` gives, and the length where it gives none. Assumes nothing.
use Rattle.std.proofs.Common.{rules, tests, ◌≡◌, eqb, arith}
use Rattle.std.specs.List.{position}
use Rattle.std.proofs.lemmas.Iterator.{YieldsList-from_slice}
use Rattle.std.proofs.lemmas.Iterator.Search.{position_from_yields_List}
use Rattle.std.proofs.lemmas.List.Sums.{prefix_len-le-length}
use Rattle.script.proofs.words.count_to.Goals as goal

pub returns-clause-value : goal.returns-clause-value
returns-clause-value c =
    let e : c.position.result ≡ position (λ o. eqb o c.args.octet) c.args.s.now = position_from_yields_List _ _ _ _ c.position.ensures.ran (YieldsList-from_slice c.args.s.now cc) (λ x b q k. search (rules, tests)) in
    rw (c.unwrap_or.ensures, e) (grind (arith, prefix_len-le-length))
