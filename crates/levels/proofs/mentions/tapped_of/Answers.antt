use Rattle.std.proofs.Common.{◌≡◌, [], get_or, ap, ◌∙◌, sym, subst, inl, inr, arith}
use Rattle.std.proofs.lemmas.Bool.{cases_lt}
use Rattle.std.proofs.lemmas.List.{get_or_past}
use Rattle.levels.specs.Marked.{IsUnmarked}
use Rattle.levels.proofs.Bits.{mark_either}
use Rattle.levels.proofs.Listed.{unmarked_less}
use Rattle.levels.proofs.mentions.tapped_of.Goals as goal

pub loop-place-preserved : goal.loop-place-preserved
loop-place-preserved c =
    let lists = c.args.lists.now in
    let k = c.loop-place.place in
    let more = c.add_tap.ensures.more in
    let r = more.room in
    let new = c.add_tap.new.tapped in
    record {
      room = omega (arith, c.loop-place.invariant.room);
      by = λ p lt u. elim (cases_lt p k) [
        | inl w ↦ c.loop-place.invariant.by p w (unmarked_less c.loop-place.tapped new p more (mark_either c.loop-place.tapped p) u)
        | inr w ↦
            let e : p ≡ k = omega arith in
            let v : IsUnmarked new k = subst (λ n. IsUnmarked new n) e u in
            ap (λ n. get_or lists n []) e ∙ (sym c.at.ensures ∙ c.add_tap.ensures.here v)
      ];
    }

pub returns : goal.returns
returns c = record {
  by = λ p u. elim (cases_lt p c.args.count) [
    | inl w ↦ c.loop-place.invariant.by p (omega (arith, w, c.loop-place-test.false)) u
    | inr w ↦ get_or_past c.args.lists.now p [] (omega (arith, w, c.requires.all))
  ];
}
