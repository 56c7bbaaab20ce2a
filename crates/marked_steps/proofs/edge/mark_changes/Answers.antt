use Rattle.std.proofs.Common.{◌≡◌, ℕ, ◌+◌, ◌-◌, ◌<◌, ◌≤◌, [], length, get_or, subst, sym, ap, ◌∙◌, inl, arith}
use Rattle.std.proofs.lemmas.Bool.{ltb-false}
use Rattle.levels.specs.Marked.{HasAll, IsMarked, HasMore}
use Rattle.levels.specs.Operands.{place, Bit}
use Rattle.levels.proofs.Listed.{more_on}
use Rattle.marked_steps.proofs.Shifting.{bits_on, stays_none}
use Rattle.marked_steps.proofs.edge.mark_changes.Goals as goal

pub loop-k-preserved : goal.loop-k-preserved
loop-k-preserved c =
    let m = c.args.m.now in
    let starts = c.args.readers.now.starts.items in
    let lists = c.args.readers.now.lists in
    let words' = c.mark_all.new.marks in
    let i = c.loop-k.invariant in
    let more : HasMore c.loop-k.marks words' = more_on c.loop-k.marks c.add.new.self words' c.add.ensures.more c.mark_all.ensures.more in
    let own : IsMarked words' (length m.assigns + c.args.reg) =
    let e = ap (λ z. length z) c.assigns.ensures in
    subst (λ n. IsMarked words' (n + c.args.reg)) e (c.mark_all.ensures.more.kept _ (c.add.ensures.marked
    (omega (arith, e, i.more.room, c.requires.room, c.requires.a_register)))) in
    let base = length c.inputs.result.now + length c.wires.result.now + c.start.result in
    let a = ap (λ z. length z) c.inputs.ensures in
    let b = ap (λ z. length z) c.wires.ensures in
    let here : (j : ℕ) → base + j ≡ place m starts (Bit c.args.reg j) = λ j. omega (arith, a, b, c.start.ensures) in
    let all : HasAll words' (get_or lists (place m starts (Bit c.args.reg c.loop-k.k)) []) =
    subst (λ n. HasAll words' (get_or lists n [])) (here c.loop-k.k) c.mark_all.ensures.all in
    let tap = c.next_tap-tap.result in
    let far = c.next_tap-tap.ensures.low in
    let empty : (j : ℕ) → c.loop-k.k + 1 ≤ j → j < tap - base → get_or lists (place m starts (Bit c.args.reg j)) [] ≡ [] =
    λ j ge lt. ap (λ n. get_or lists n []) (sym (here j)) ∙ c.next_tap-tap.ensures.none (base + j) (omega arith) (omega arith) in
    record {
      more = more_on c.args.marks.now c.loop-k.marks words' i.more more;
      seen = bits_on m starts lists c.loop-k.marks words' c.args.reg c.args.first (get_or c.args.levels.now.regs c.args.reg []) c.loop-k.k (tap - base)
          c.change-k-in-loop-k.result i.seen more all empty c.change-k-in-loop-k.ensures.none;
      quiet = inl own;
    }

pub returns-clause-still : goal.returns-clause-still
returns-clause-still c = λ e.
    let le = ltb-false c.change-k.result c.width-width.result e in
    stays_none c.args.first (get_or c.args.levels.now.regs c.args.reg []) (length (get_or c.args.levels.now.regs c.args.reg []))
    (λ j lt w. c.change-k.ensures.none j (omega arith) (omega (arith, lt, le, c.width-width.ensures)) w)
