use Rattle.std.proofs.Common.{◌≡◌, ◌+◌, ◌-◌, refl, get_or, inl, inr, ℕ, length, arith, sym, subst, ◌∙◌}
use Rattle.diff_bounds.specs.Search.{of, IsRunning, IsListed, IsOpen, IsOpened}
use Rattle.diff_bounds.proofs.Running.{begun, settle, unset_all, unset_less, unset_some}
use Rattle.diff_bounds.proofs.Opening.{none_open, opened, closed}
use Rattle.diff_bounds.proofs.Kept.{are_met}
use Rattle.diff_bounds.proofs.searching.settle.Goals as goal

pub loop-place-init : goal.loop-place-init
loop-place-init c =
    let n = c.args.n in
    let ts = c.fill_turns.new.turns in
    let ds = c.put_distance.new.distances in
    let long_ts : length ts ≡ n = c.fill_turns.auto.turns ∙ c.requires.turns in
    let all = unset_all n ts in
    record {
      few = omega (arith, all, long_ts);
      is_open =
          let ds0 = c.fill_distances.new.distances in
          let long : length ds0 ≡ n = c.fill_distances.auto.distances ∙ c.requires.distances in
          let e = c.requires.distances in
          let far : get_or ds0 c.args.question.target 0 ≡ c.args.question.limit = let h = c.requires.target in c.fill_distances.ensures c.args.question.target (omega (arith, h, e)) in
          opened n ds0 ds (of ts) c.args.question.stop c.args.reached.now c.open_input-count.new.reached 0 c.open_input-count.result c.args.question.target
          (none_open n ds0 (of ts) c.args.question.stop c.args.reached.now long (λ l h. let x = c.fill_distances.ensures l (omega (arith, h, e)) in let s = c.requires.stop in omega (arith, x, s)))
          c.requires.target long c.put_distance.auto.distances c.put_distance.ensures.others (let z = c.put_distance.ensures.here in omega (arith, z))
          (subst (λ (before : ℕ). IsOpened before (of ds c.args.question.target) c.args.question.stop c.args.question.target 0 c.args.reached.now c.open_input-count.new.reached c.open_input-count.result) (sym far)
          (subst (λ (after : ℕ). IsOpened c.args.question.limit after c.args.question.stop c.args.question.target 0 c.args.reached.now c.open_input-count.new.reached c.open_input-count.result) (sym c.put_distance.ensures.here) c.open_input-count.ensures));
      running = (
        c.args.question.target,
        begun n c.args.edges.now (of c.args.kept.now) (of ds) (of c.args.vias.now) (of ts) c.args.question.target c.args.question.limit (are_met c.args.n c.args.edges.now c.args.kept.now c.requires.bounds) c.put_distance.ensures.here
            (λ l h. let e = c.requires.turns in c.fill_turns.ensures l (omega (arith, h, e)))
            (λ l h. elim (c.put_distance.ensures.others l) [
              | inl q ↦ inl q
              | inr i ↦ let e = c.requires.distances in inr (i ∙ c.fill_distances.ensures l (omega (arith, h, e)))
            ]),
      );
    }

pub relax_into-count-requires-clause-settled : goal.relax_into-count-requires-clause-settled
relax_into-count-requires-clause-settled c =
    let n = c.args.n in
    let long : length c.loop-place.turns ≡ n = c.loop-place.auto.turns ∙ c.fill_turns.auto.turns ∙ c.requires.turns in
    let there = c.loop-place.invariant.is_open.inside c.in-Some.place c.in-Some.ensures.there in
    let some = unset_some n c.loop-place.turns (get_or c.loop-place.reached c.in-Some.place 0) (omega (arith, there, long)) c.in-Some.ensures.unset in
    let few = c.loop-place.invariant.few in
    let is = c.put_number-in-Some.ensures.here in
    let kept = c.requires.bounds.solution.long in
    omega (arith, some, few, is, kept)

pub relax_into-count-requires-clause-is_open : goal.relax_into-count-requires-clause-is_open
relax_into-count-requires-clause-is_open c =
    let n = c.args.n in
    let long : length c.loop-place.turns ≡ n = c.loop-place.auto.turns ∙ c.fill_turns.auto.turns ∙ c.requires.turns in
    let there = c.loop-place.invariant.is_open.inside c.in-Some.place c.in-Some.ensures.there in
    let some = unset_some n c.loop-place.turns (get_or c.loop-place.reached c.in-Some.place 0) (omega (arith, there, long)) c.in-Some.ensures.unset in
    let few = c.loop-place.invariant.few in
    let is = c.put_number-in-Some.ensures.here in
    subst (λ (n : ℕ). IsOpen n c.loop-place.distances (of c.put_number-in-Some.new.numbers) c.args.question.stop c.put_number.new.numbers (c.loop-place.count - 1)) (sym c.requires.bounds.solution.long)
    (closed n c.loop-place.distances (of c.loop-place.turns) (of c.put_number-in-Some.new.numbers) c.args.question.stop c.loop-place.reached c.put_number.new.numbers c.loop-place.count c.in-Some.place
    (get_or c.loop-place.reached c.in-Some.place 0) c.loop-place.invariant.is_open c.in-Some.ensures.there refl (omega (arith, some, few, is)) c.put_number-in-Some.ensures.others
    c.put_number.ensures.here c.put_number.ensures.others)

pub relax_into-count-requires-clause-listed : goal.relax_into-count-requires-clause-listed
relax_into-count-requires-clause-listed c = subst (λ (n : ℕ). IsListed n c.args.edges.now c.args.ends.now) (sym c.requires.bounds.solution.long) c.requires.listed

pub overflow_add-turn : goal.overflow_add-turn
overflow_add-turn c =
    let few = c.loop-place.invariant.few in
    let n = c.args.n in
    let long : length c.loop-place.turns ≡ n = c.loop-place.auto.turns ∙ c.fill_turns.auto.turns ∙ c.requires.turns in
    let there = c.loop-place.invariant.is_open.inside c.in-Some.place c.in-Some.ensures.there in
    let some = unset_some n c.loop-place.turns (get_or c.loop-place.reached c.in-Some.place 0) (omega (arith, there, long)) c.in-Some.ensures.unset in
    let fits = c.ranges.n.fits in
    omega (arith, few, some, fits)

pub loop-place-smaller : goal.loop-place-smaller
loop-place-smaller c =
    let n = c.args.n in
    let long : length c.loop-place.turns ≡ n = c.loop-place.auto.turns ∙ c.fill_turns.auto.turns ∙ c.requires.turns in
    let there = c.loop-place.invariant.is_open.inside c.in-Some.place c.in-Some.ensures.there in
    let some = unset_some n c.loop-place.turns (get_or c.loop-place.reached c.in-Some.place 0) (omega (arith, there, long)) c.in-Some.ensures.unset in
    let few = c.loop-place.invariant.few in
    let is = c.put_number-in-Some.ensures.here in
    let less = unset_less n c.loop-place.turns c.put_number-in-Some.new.numbers (get_or c.loop-place.reached c.in-Some.place 0) c.put_number-in-Some.auto.numbers (omega (arith, there, long)) c.in-Some.ensures.unset (omega (arith, is, some, few)) c.put_number-in-Some.ensures.others in
    omega (arith, less)

pub loop-place-preserved : goal.loop-place-preserved
loop-place-preserved c =
    let n = c.args.n in
    let edges = c.args.edges.now in
    let y = of c.args.kept.now in
    let k = (get_or c.loop-place.reached c.in-Some.place 0) in
    let long : length c.loop-place.turns ≡ n = c.loop-place.auto.turns ∙ c.fill_turns.auto.turns ∙ c.requires.turns in
    let there = c.loop-place.invariant.is_open.inside c.in-Some.place c.in-Some.ensures.there in
    let some = unset_some n c.loop-place.turns k (omega (arith, there, long)) c.in-Some.ensures.unset in
    let few = c.loop-place.invariant.few in
    let is = c.put_number-in-Some.ensures.here in
    let less = unset_less n c.loop-place.turns c.put_number-in-Some.new.numbers k c.put_number-in-Some.auto.numbers (omega (arith, there, long)) c.in-Some.ensures.unset (omega (arith, is, some, few)) c.put_number-in-Some.ensures.others in
    let run = c.loop-place.invariant.running in
    let set : IsRunning n edges y (of c.loop-place.distances) (of c.loop-place.vias) (of c.put_number-in-Some.new.numbers) (c.loop-place.turn + 1) c.args.question.target c.args.question.limit k (length edges) =
    settle n edges y (of c.loop-place.distances) (of c.loop-place.vias) (of c.loop-place.turns) (of c.put_number-in-Some.new.numbers) c.loop-place.turn c.args.question.target c.args.question.limit run.0 k (are_met c.args.n c.args.edges.now c.args.kept.now c.requires.bounds) run.1
    there c.in-Some.ensures.unset (omega (arith, some, few))
    (λ l h u. elim (c.in-Some.ensures.nearest l h) [ inl lt ↦ absurd (omega (arith, lt, u)) | inr le ↦ le ])
    is c.put_number-in-Some.ensures.others in
    record {
      few = omega (arith, few, less);
      is_open = subst (λ (n : ℕ). IsOpen n c.relax_into-count.new.distances (of c.put_number-in-Some.new.numbers) c.args.question.stop c.relax_into-count.new.reached c.relax_into-count.result) c.requires.bounds.solution.long c.relax_into-count.ensures.is_open;
      running = (
        k,
        subst (λ (n : ℕ). IsRunning n edges y (of c.relax_into-count.new.distances) (of c.relax_into-count.new.vias) (of c.put_number-in-Some.new.numbers) (c.loop-place.turn + 1) c.args.question.target c.args.question.limit k 0) c.requires.bounds.solution.long
            (c.relax_into-count.ensures.running (c.loop-place.turn + 1) c.args.question.target c.args.question.limit
            (subst (λ (n : ℕ). IsRunning n edges y (of c.loop-place.distances) (of c.loop-place.vias) (of c.put_number-in-Some.new.numbers) (c.loop-place.turn + 1) c.args.question.target c.args.question.limit k (length edges)) (sym c.requires.bounds.solution.long) set)),
      );
    }
