use Rattle.std.proofs.Common.{◌≡◌, ◌∙◌, ap, subst, [], ◌∷◌, ◌++◌, true}
use Rattle.std.specs.Prelude.{Option, MatchOption}
use Rattle.std.proofs.lemmas.List.Elements.{All-cons, All-nil}
use Rattle.refutation.specs.declared.item.Fact.{Fact}
use Rattle.tree_check.specs.Valid.{is_right}
use Rattle.diff_bounds.specs.Bounds.{System}
use Rattle.case_split.specs.Stages.{Stages}
use Rattle.case_split.specs.Task.{IsFact}
use Rattle.case_split.proofs.Nesting.{grown_nested, grown_begun, none_more}
use Rattle.case_split.proofs.stages.Stages.shows.Goals as goal

pub invariant_of-self-in-Some : goal.invariant_of-self-in-Some
invariant_of-self-in-Some c =
    grown_nested c.self.inside.bounds.inputs c.implied.new.bounds.inputs c.self.inside.bounds.assumptions c.implied.new.bounds.assumptions [] c.self.inside.facts.items c.push.new.self.items _ c.self.inside.forms.items _ [] c.self.inside.later.items
    (ap (λ (b : System). b.inputs) c.in_ok-fact.ensures.same) (ap (λ (b : System). b.assumptions) c.in_ok-fact.ensures.same ∙ none_more _) c.in_ok-push-in-Some.ensures.items (none_more _) c.self.invariant

pub returns-in_ok-push-in-Some-clause-later : goal.returns-in_ok-push-in-Some-clause-later
returns-in_ok-push-in-Some-clause-later c =
    grown_begun c.self.inside.bounds.inputs c.implied.new.bounds.inputs c.self.inside.bounds.assumptions c.implied.new.bounds.assumptions [] c.self.inside.facts.items c.push.new.self.items _ c.self.inside.forms.items _ [] c.self.inside.later.items
    (ap (λ (b : System). b.inputs) c.in_ok-fact.ensures.same) (ap (λ (b : System). b.assumptions) c.in_ok-fact.ensures.same ∙ none_more _) c.in_ok-push-in-Some.ensures.items (none_more _) c.self.invariant
    ∙ ap (λ (s : Stages). s.later) c.self.view_is

pub returns-in_ok-push-in-Some-clause-facts : goal.returns-in_ok-push-in-Some-clause-facts
returns-in_ok-push-in-Some-clause-facts c =
    let right : is_right c.args.self.now.now.path c.in-Some.fact ≡ true =
    subst (λ (s : Stages). is_right s.now.path c.in-Some.fact ≡ true) c.self.view_is
    (subst (λ (f : Option Fact). MatchOption f (Unit {0}) (λ fact. is_right c.self.inside.bounds.assumptions fact ≡ true)) c.in-Some.is c.in_ok-fact.ensures.right) in
    let small : IsFact c.args.self.now.inputs c.in-Some.fact =
    subst (λ (s : Stages). IsFact s.inputs c.in-Some.fact) c.self.view_is
    (subst (λ (f : Option Fact). MatchOption f (Unit {0}) (λ fact. IsFact c.self.inside.bounds.inputs fact)) c.in-Some.is c.in_ok-fact.ensures.small) in (
      c.in-Some.fact ∷ [],
      c.in_ok-push-in-Some.ensures.items ∙ ap (λ (s : Stages). s.now.facts ++ c.in-Some.fact ∷ []) c.self.view_is,
      (right, tt),
      All-cons (IsFact c.args.self.now.inputs) c.in-Some.fact [] small (All-nil (IsFact c.args.self.now.inputs)),
    )
