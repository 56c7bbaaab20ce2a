use Rattle.std.proofs.Common.{◌≡◌, ◌≤◌, length, arith, subst, sym, ap, ◌∙◌, to_z, of_z, w64, true}
use Rattle.std.specs.Prelude.{◌↔◌, ℤ}
use Rattle.std.proofs.lemmas.Int.{ints}
use Rattle.std.proofs.lemmas.List.{with_items_is}
use Rattle.refutation.specs.Path.{assumption, is_negative}
use Rattle.diff_bounds.specs.declared.added.Added.TheVariants as added
use Rattle.diff_bounds.specs.Bounds.{System, more, CanBeMet, Implies, IsSolution, integers}
use Rattle.diff_bounds.specs.Verdict.{IsContradiction, IfContradiction, IsVerdict, grown}
use Rattle.diff_bounds.specs.Pressing.{IsNear}
use Rattle.diff_bounds.specs.Search.{IsBounds, IsListed, IsSized}
use Rattle.diff_bounds.proofs.Answering.{fresh_exactly, held_exactly, contradiction_exactly, chain_of, same_bounds, grown_bounds}
use Rattle.diff_bounds.proofs.bounds.Bounds.add.Goals as goal

same_bound : (c : goal.In_ok-keep) → to_z w64 (of_z w64 c.args.w) ≡ c.args.w
same_bound c = let low = c.requires.low in let high = c.requires.high in omega (arith, ints, low, high)

verdict : (c : goal.In_ok-keep) → IsVerdict c.self.inside.assumptions.items c.args.i c.args.j c.args.w c.in_ok-added.added
verdict c =
    subst (λ (w : ℤ). IsVerdict c.self.inside.assumptions.items c.args.i c.args.j w c.in_ok-added.added) (same_bound c)
    (subst (λ edges. IsVerdict edges c.args.i c.args.j (to_z w64 (of_z w64 c.args.w)) c.in_ok-added.added) c.deref.ensures.value c.in_ok-added.ensures.verdict)

met : (c : goal.In_ok-keep) → CanBeMet c.self.inside.assumptions.items
met c = (integers c.self.inside.kept.items, c.self.invariant.0.solution.meets)

pub returns-clause-fresh : goal.returns-clause-fresh
returns-clause-fresh c =
    subst (λ (s : System). (c.in_ok-added.added ≡ added.Fresh) ↔ (CanBeMet (more s.assumptions c.args.i c.args.j c.args.w) × (Implies s.assumptions c.args.i c.args.j c.args.w → ⊥))) c.self.view_is
    (fresh_exactly c.self.inside.assumptions.items c.args.i c.args.j c.args.w c.in_ok-added.added (verdict c))

pub returns-clause-held : goal.returns-clause-held
returns-clause-held c =
    subst (λ (s : System). (c.in_ok-added.added ≡ added.Held) ↔ Implies s.assumptions c.args.i c.args.j c.args.w) c.self.view_is
    (held_exactly c.self.inside.assumptions.items c.args.i c.args.j c.args.w (met c) c.in_ok-added.added (verdict c))

pub returns-clause-contradiction : goal.returns-clause-contradiction
returns-clause-contradiction c =
    subst (λ (s : System). IsContradiction c.in_ok-added.added ↔ (CanBeMet (more s.assumptions c.args.i c.args.j c.args.w) → ⊥)) c.self.view_is
    (contradiction_exactly c.self.inside.assumptions.items c.args.i c.args.j c.args.w (met c) c.in_ok-added.added (verdict c))

pub returns-clause-chain : goal.returns-clause-chain
returns-clause-chain c =
    subst (λ (s : System). IfContradiction c.in_ok-added.added (λ chain. is_negative (more s.assumptions c.args.i c.args.j c.args.w) chain ≡ true)) c.self.view_is
    (chain_of c.self.inside.assumptions.items c.args.i c.args.j c.args.w c.in_ok-added.added (verdict c))

pub returns-clause-short : goal.returns-clause-short
returns-clause-short c = subst (λ (s : System). IfContradiction c.in_ok-added.added (λ chain. length chain ≤ s.inputs)) c.self.view_is c.in_ok-added.ensures.short

pub returns-clause-assumptions : goal.returns-clause-assumptions
returns-clause-assumptions c =
    subst (λ (s : System). c.keep.new.assumptions.items ≡ grown s.assumptions c.args.i c.args.j c.args.w c.in_ok-added.added) c.self.view_is
    (subst (λ (w : ℤ). c.keep.new.assumptions.items ≡ grown c.self.inside.assumptions.items c.args.i c.args.j w c.in_ok-added.added) (same_bound c) c.in_ok-keep.ensures.grown)

pub invariant_of-self-in_err-keep : goal.invariant_of-self-in_err-keep
invariant_of-self-in_err-keep c =
    let s = c.self.inside in
    let ys = c.judge.new.kept in
    let w = to_z w64 (of_z w64 c.args.w) in
    let kept = subst (λ edges. IsSolution s.inputs (grown edges c.args.i c.args.j w c.in_ok-added.added) ys) c.deref.ensures.value c.in_ok-added.ensures.kept in
    subst (λ zs. IsBounds s.inputs c.keep.new.assumptions.items zs × (IsListed s.inputs c.keep.new.assumptions.items c.keep.new.ends × IsSized s.inputs c.judge.new.search)) (sym (with_items_is s.kept ys (c.judge.auto.kept ∙ c.deref_mut.ensures.len))) (
      subst (λ edges. IsBounds s.inputs edges ys) (sym c.in_err-keep.ensures.unchanged)
          (same_bounds s.assumptions.items c.args.i c.args.j w s.inputs s.kept.items ys c.in_ok-added.added c.self.invariant.0 kept),
      (c.in_err-keep.ensures.listed, c.in_ok-added.ensures.sized),
    )

pub invariant_of-self-2 : goal.invariant_of-self-2
invariant_of-self-2 c =
    let s = c.self.inside in
    let ys = c.judge.new.kept in
    let w = to_z w64 (of_z w64 c.args.w) in
    let is = same_bound c in
    let low = c.requires.low in
    let high = c.requires.high in
    let inputs = ap (λ (s : System). s.inputs) c.self.view_is in
    let assumptions = ap (λ (s : System). length s.assumptions) c.self.view_is in
    let i = c.requires.i in
    let j = c.requires.j in
    let room = c.requires.room in
    let near : IsNear s.inputs (assumption c.args.i c.args.j w) = record { from = omega (arith, i, inputs); to = omega (arith, j, inputs); low = omega (arith, ints, is, low); high = omega (arith, ints, is, high) } in
    let kept = subst (λ edges. IsSolution s.inputs (grown edges c.args.i c.args.j w c.in_ok-added.added) ys) c.deref.ensures.value c.in_ok-added.ensures.kept in
    subst (λ zs. IsBounds s.inputs c.keep.new.assumptions.items zs × (IsListed s.inputs c.keep.new.assumptions.items c.keep.new.ends × IsSized s.inputs c.judge.new.search)) (sym (with_items_is s.kept ys (c.judge.auto.kept ∙ c.deref_mut.ensures.len))) (
      subst (λ edges. IsBounds s.inputs edges ys) (sym c.in_ok-keep.ensures.grown)
          (grown_bounds s.assumptions.items c.args.i c.args.j w s.inputs s.kept.items ys c.in_ok-added.added c.self.invariant.0 near (omega (arith, room, assumptions)) kept),
      (c.in_ok-keep.ensures.listed, c.in_ok-added.ensures.sized),
    )
