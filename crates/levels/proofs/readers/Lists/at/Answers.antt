use Rattle.std.proofs.Common.{◌≡◌, ◌≤◌, ◌<◌, ◌+◌, ◌-◌, take, drop, ap, sym, ◌∙◌, get_or, length, [], arith}
use Rattle.std.proofs.lemmas.List.{get_or_read}
use Rattle.levels.proofs.Flat.{list_within, list_past}
use Rattle.levels.proofs.readers.Lists.at.Goals as goal
use Rattle.levels.proofs.readers.Lists.at.Goals.{then-count-eq0-via-then-count-eq0, then-count-eq0-via-else-count-eq0+then-place-count}

pub returns-then-count-eq0 : goal.returns-then-count-eq0
returns-then-count-eq0 c =
    let starts = c.self.inside.starts in
    let past : length starts.items ≤ c.args.place + 1 =
    elim c.then-count-eq0.branch [
      | then-count-eq0-via-then-count-eq0 w ↦ omega (arith, c.len-count.ensures, starts.ok.0, w.if-count-eq0.true)
      | then-count-eq0-via-else-count-eq0+then-place-count w ↦ omega (arith, c.len-count.ensures, starts.ok.0, w.if-place-count.true)
    ] in
    sym (list_past starts.items c.self.inside.entries.items c.args.place past) ∙ ap (λ z. get_or z c.args.place []) c.self.view_is

pub slice_bounds-result-count : goal.slice_bounds-result-count
slice_bounds-result-count c =
    let starts = c.self.inside.starts in
    let p = c.args.place in
    let lt : p + 1 < length starts.items = omega (arith, c.len-count.ensures, starts.ok.0, c.if-place-count.false, c.if-count-eq0.false) in
    let a : c.index.result.now ≡ get_or starts.items p 0 = get_or_read starts.items p c.index.result.now (omega arith) c.index.ensures 0 in
    let b : c.index-2.result.now ≡ get_or starts.items (p + 1) 0 = get_or_read starts.items (p + 1) c.index-2.result.now (omega arith) c.index-2.ensures 0 in
    let le = c.self.invariant.ordered p lt in
    omega arith

pub returns : goal.returns
returns c =
    let starts = c.self.inside.starts in
    let entries = c.self.inside.entries in
    let p = c.args.place in
    let lt : p + 1 < length starts.items = omega (arith, c.len-count.ensures, starts.ok.0, c.if-place-count.false, c.if-count-eq0.false) in
    let a : c.index.result.now ≡ get_or starts.items p 0 = get_or_read starts.items p c.index.result.now (omega arith) c.index.ensures 0 in
    let b : c.index-2.result.now ≡ get_or starts.items (p + 1) 0 = get_or_read starts.items (p + 1) c.index-2.result.now (omega arith) c.index-2.ensures 0 in
    ap (λ z. take (c.index-2.result.now - c.index.result.now) (drop c.index.result.now z)) c.deref.ensures.value
    ∙ (ap (λ z. take (c.index-2.result.now - z) (drop z entries.items)) a ∙ (ap (λ z. take (z - get_or starts.items p 0) (drop (get_or starts.items p 0) entries.items)) b
    ∙ (sym (list_within starts.items entries.items p lt) ∙ ap (λ z. get_or z p []) c.self.view_is)))
