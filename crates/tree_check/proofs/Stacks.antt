-- What stays of the pending paths where the path grows, and where it is cut.
use Rattle.std.proofs.Common.{◌≡◌, ℕ, ◌≤◌, List, [], ◌∷◌, ◌++◌, length, take, refl, sym, ap, subst, ◌∙◌, arith, length-append}
use Rattle.std.proofs.lemmas.List.{take-append-le, length-take-le, take-take}
use Rattle.refutation.specs.declared.assumption.Assumption.{Assumption}
use Rattle.std.proofs.Math.Seq.{take-append_seam}
use Rattle.std.proofs.lemmas.List.Elements.{All-push, All-take, All-pop}
use Rattle.std.proofs.lemmas.Int.{ints}
use Rattle.std.specs.Prelude.{Some, ℤ, pos, negsuc, neg_ℤ, ◌-ℤ◌, ◌≤ℤ◌}
use Rattle.std.specs.List.{All}
use Rattle.refutation.specs.Path.{assumption}
use Rattle.refutation.specs.Cases.{Path, yes_side, no_side}
use Rattle.tree_check.specs.Small.{IsSmall}
use Rattle.tree_check.specs.declared.later.Later.{Later}
use Rattle.tree_check.specs.Stack.{side_path, sides, pending, IsNested, IsStack}

pub nested-le : (low : ℕ) (later : List Later) (high : ℕ) → IsNested low later high → low ≤ high
nested-le low [] high h = h
nested-le low (l ∷ later) high h = omega (arith, h.0, nested-le l.depth later high h.1)

pub nested-more : (low : ℕ) (later : List Later) (high more : ℕ) → high ≤ more → IsNested low later high → IsNested low later more
nested-more low [] high more le h = omega (arith, le, h)
nested-more low (l ∷ later) high more le h = (h.0, nested-more l.depth later high more le h.1)

pub nested-push : (low : ℕ) (later : List Later) (l : Later) (high : ℕ) → l.depth ≤ high → IsNested low later l.depth → IsNested low (later ++ l ∷ []) high
nested-push low [] l high le h = (h, le)
nested-push low (m ∷ later) l high le h = (h.0, nested-push m.depth later l high le h.1)

pub nested-pop : (low : ℕ) (later : List Later) (l : Later) (high : ℕ) → IsNested low (later ++ l ∷ []) high → IsNested low later l.depth × (l.depth ≤ high)
nested-pop low [] l high h = h
nested-pop low (m ∷ later) l high h = let rest = nested-pop m.depth later l high h.1 in ((h.0, rest.0), rest.1)

pub sides-push : (path : Path) (later : List Later) (l : Later) → sides path (later ++ l ∷ []) ≡ side_path path l ∷ sides path later
sides-push path [] l = refl
sides-push path (m ∷ later) l = ap (λ (ps : List Path). ps ++ side_path path m ∷ []) (sides-push path later l)

-- two paths that begin alike have the same pending sides
same-sides : (path other : Path) (low : ℕ) (later : List Later) (high : ℕ) → ((d : ℕ) → d ≤ high → take d path ≡ take d other) → IsNested low later high → sides path later ≡ sides other later
same-sides path other low [] high same h = refl
same-sides path other low (l ∷ later) high same h =
    let rest = same-sides path other l.depth later high same h.1 in
    let here : side_path path l ≡ side_path other l = ap (λ (p : Path). p ++ l.side ∷ []) (same l.depth (nested-le l.depth later high h.1)) in
    ap (λ (ps : List Path). ps ++ side_path path l ∷ []) rest ∙ ap (λ (p : Path). sides other later ++ p ∷ []) here

pub sides-grown : (path : Path) (a : Assumption) (later : List Later) → IsNested 0 later (length path) → sides (path ++ a ∷ []) later ≡ sides path later
sides-grown path a later h =
    same-sides (path ++ a ∷ []) path 0 later (length path) (λ d le. take-append-le d path (a ∷ []) le) h

pub sides-cut : (path : Path) (depth : ℕ) (a : Assumption) (later : List Later) → depth ≤ length path → IsNested 0 later depth → sides (take depth path ++ a ∷ []) later ≡ sides path later
sides-cut path depth a later le h = same-sides (take depth path ++ a ∷ []) path 0 later depth (λ d below. take-append-le d (take depth path) (a ∷ []) (let e = length-take-le depth path le in omega (arith, e, below)) ∙ take-take d depth path below) h

minus-one : (w : ℤ) → negsuc 99999999 ≤ℤ w → w ≤ℤ pos 100000000 → (negsuc 100000000 ≤ℤ (neg_ℤ w -ℤ pos 1)) × ((neg_ℤ w -ℤ pos 1) ≤ℤ pos 100000001)
minus-one w low high = (omega (arith, ints), omega (arith, ints))

module _ (path : Path) (later : List Later) (i j : ℕ) (w : ℤ) (stack : IsStack path later) where
  no_later : Later
  no_later = record { depth = length path; side = assumption j i (neg_ℤ w -ℤ pos 1) }

  module _ (low : negsuc 99999999 ≤ℤ w) (high : w ≤ℤ pos 100000000) where
    small-sides : All (λ l. IsSmall l.side) (later ++ no_later ∷ [])
    unfolding no_later
    small-sides =
        let m = minus-one w low high in
        All-push (λ (l : Later). IsSmall l.side) later no_later stack.small_sides (record { low = m.0; high = m.1 })

    -- a split whose side is on the stack, and whose own assumption isn't on the path yet
    half-split : IsStack path (later ++ no_later ∷ [])
    unfolding no_later
    half-split = record { nested = nested-push 0 later no_later (length path) (omega arith) stack.nested; small = stack.small; small_sides = small-sides }

    whole-split : IsStack (path ++ assumption i j w ∷ []) (later ++ no_later ∷ [])
    unfolding no_later
    whole-split = record {
      nested = nested-push 0 later no_later (length (path ++ assumption i j w ∷ [])) (omega (arith, length-append path (assumption i j w ∷ []))) stack.nested;
      small = All-push IsSmall path (assumption i j w) stack.small (record { low = omega (arith, ints); high = omega (arith, ints) });
      small_sides = small-sides;
    }

  split-paths : pending (path ++ assumption i j w ∷ []) (later ++ no_later ∷ []) ≡ yes_side path i j w ∷ no_side path i j w ∷ sides path later
  unfolding no_later
  split-paths =
      let pushed = sides-push (path ++ assumption i j w ∷ []) later no_later in
      let own : take (length path) (path ++ assumption i j w ∷ []) ≡ path = take-append_seam path (assumption i j w ∷ []) in
      let grown = sides-grown path (assumption i j w) later stack.nested in
      ap (λ (ps : List Path). yes_side path i j w ∷ ps)
      (pushed ∙ (ap (λ (p : Path). (p ++ assumption j i (neg_ℤ w -ℤ pos 1) ∷ []) ∷ sides (path ++ assumption i j w ∷ []) later) own
      ∙ ap (λ (ps : List Path). no_side path i j w ∷ ps) grown))

-- the same, as the code has them
module _ (path path' : Path) (later later' : List Later) (n i j : ℕ) (w u v : ℤ)
    (later_is : later' ≡ later ++ record { depth = n; side = assumption j i v } ∷ []) (n_is : n ≡ length path) (v_is : v ≡ (neg_ℤ w -ℤ pos 1)) where
  later-same : later' ≡ later ++ record { depth = length path; side = assumption j i (neg_ℤ w -ℤ pos 1) } ∷ []
  later-same = rw (← n_is, ← v_is) later_is

  pub half_split_is : path' ≡ path → IsStack path later → negsuc 99999999 ≤ℤ w → w ≤ℤ pos 100000000 → IsStack path' later'
  unfolding no_later
  half_split_is e stack low high = rw (e, later-same) (half-split path later i j w stack low high)

  pub whole_split_is : path' ≡ path ++ assumption i j u ∷ [] → u ≡ w → IsStack path later → negsuc 99999999 ≤ℤ w → w ≤ℤ pos 100000000 → IsStack path' later'
  unfolding no_later
  whole_split_is e u_is stack low high = rw (e, u_is, later-same) (whole-split path later i j w stack low high)

  pub split_paths_are : path' ≡ path ++ assumption i j u ∷ [] → u ≡ w → IsStack path later → pending path' later' ≡ yes_side path i j w ∷ no_side path i j w ∷ sides path later
  unfolding no_later
  split_paths_are e u_is stack = rw (e, u_is, later-same) (split-paths path later i j w stack)

-- the last side is taken off the stack
module _ (path cut path' : Path) (old later : List Later) (l : Later) (old_is : old ≡ later ++ l ∷ []) (cut_is : cut ≡ take l.depth path) (stack : IsStack path old) where
  popped : IsStack path (later ++ l ∷ [])
  popped = subst (λ (s : List Later). IsStack path s) old_is stack

  parts : IsNested 0 later l.depth × (l.depth ≤ length path)
  parts = nested-pop 0 later l (length path) popped.nested

  small-later : All (λ l. IsSmall l.side) later × IsSmall l.side
  small-later = All-pop (λ (l : Later). IsSmall l.side) (later ++ l ∷ []) later (Some l) refl popped.small_sides

  pub cut_stack : path' ≡ cut → IsStack path' later
  cut_stack e =
      let long : length (take l.depth path) ≡ l.depth = length-take-le l.depth path parts.1 in
      rw (e, cut_is) (record {
        nested = subst (λ (n : ℕ). IsNested 0 later n) (sym long) parts.0;
        small = All-take IsSmall l.depth path popped.small;
        small_sides = small-later.0;
      })

  pub next_stack : path' ≡ cut ++ l.side ∷ [] → IsStack path' later
  next_stack e =
      let long : length (take l.depth path) ≡ l.depth = length-take-le l.depth path parts.1 in
      rw (e, cut_is) (record {
        nested = nested-more 0 later l.depth (length (take l.depth path ++ l.side ∷ [])) (omega (arith, length-append (take l.depth path) (l.side ∷ []), long)) parts.0;
        small = All-push IsSmall (take l.depth path) l.side (All-take IsSmall l.depth path popped.small) small-later.1;
        small_sides = small-later.0;
      })

  pub next_paths : path' ≡ cut ++ l.side ∷ [] → pending path' later ≡ sides path old
  next_paths e =
      rw (e, cut_is, old_is)
      (ap (λ (ps : List Path). side_path path l ∷ ps) (sides-cut path l.depth l.side later parts.1 parts.0) ∙ sym (sides-push path later l))
