use Rattle.std.proofs.Common.{◌≡◌, ℕ, sym, subst, None}
use Rattle.tree_check.specs.Bounds.{known}
use Rattle.tree_check.specs.Forms.{Known, output_form}
use Rattle.tree_check.specs.Valid.{listed}
use Rattle.tree_check.specs.Verdict.{bad_fact, forms_flaw}
use Rattle.tree_check.proofs.leaf.leaf_flaw.Goals as goal

pub returns-in-None-clause-flaw : goal.returns-in-None-clause-flaw
returns-in-None-clause-flaw c =
    let same : known c.enter.new.self ≡ listed c.args.facts.now = λ k i j w. c.enter.ensures.known i j w k in
    let none : bad_fact c.args.path.now 0 c.args.facts.now ≡ None = sym c.in-None.ensures in
    let found = subst (λ (facts : Known). c.forms_flaw.result ≡ forms_flaw facts (output_form facts c.args.first.now.network c.args.first.now.place) (output_form facts c.args.second.now.network c.args.second.now.place)) same c.forms_flaw.ensures.flaw in
    rw none
    (subst (λ (place : ℕ). c.forms_flaw.result ≡ forms_flaw (listed c.args.facts.now) (output_form (listed c.args.facts.now) c.args.first.now.network c.args.first.now.place) (output_form (listed c.args.facts.now) c.args.second.now.network place))
    (sym c.requires.same_place) found)
