-- The laws as functions are the laws.
use Rattle.std.proofs.Common.{◌≡◌, ℕ, ◌+◌, refl, ap, subst, sym, ◌∙◌, Bool, true, false, true≢false, ◌&&◌, if◌then◌else◌, [], ◌∷◌, Option, Some, None, inl, inr, ◌⊎◌}
use Rattle.std.specs.Option.{option_or}
use Rattle.term_store.specs.Tree.{Tree, Never, Min, Max, Lt, Inc}
use Rattle.term_store.specs.Subterms.{same_tree}
use Rattle.term_store.proofs.Parts.{same_refl, same_is, both_are, or_left, or_right, or_either}
use Rattle.simplify.specs.Laws.{IsLaw, IsLaw1, IsLaw2, IsLaw3, IsLaw4, IsLaw5, IsLaw6, IsLaw7, IsLaw8, IsLaw9, IsLaw10, IsLaw11, IsLaw12, IsLaw13, IsLaw14, IsLaw15, IsLaw16, IsLaw17, IsLaw18, IsLaw19, IsLaw20}
use Rattle.simplify.specs.Simplified.{is_never, is_max_of, is_min_of, is_lt_of, is_lt_before, is_inc_of, law, first_law, law1, law2, law3, law4, law5, law6, law7, law8, law9, law10, law11, law12, law13, law14, law15, law16, law17, law18, law19, law20}
use Rattle.simplify.proofs.Stepping.{IsStep}
use Rattle.simplify.proofs.Steps.{if_some, if_either, step_of}

pub never_is : (t : Tree) → is_never t ≡ true → t ≡ Never
never_is Never e = refl
never_is t e = absurd (true≢false (sym e))

max_parts : (a b : Tree) → is_max_of a b ≡ true → (c : Tree) × ((b ≡ Max a c) ⊎ (b ≡ Max c a))
max_parts a (Max x y) e = elim (or_either (same_tree a x) (same_tree a y) e) [
  | inl h ↦ (y, inl (ap (λ z. Max z y) (sym (same_is a x h))))
  | inr h ↦ (x, inr (ap (λ z. Max x z) (sym (same_is a y h))))
]
max_parts a t e = absurd (true≢false (sym e))

min_parts : (a b : Tree) → is_min_of a b ≡ true → (c : Tree) × ((b ≡ Min a c) ⊎ (b ≡ Min c a))
min_parts a (Min x y) e = elim (or_either (same_tree a x) (same_tree a y) e) [
  | inl h ↦ (y, inl (ap (λ z. Min z y) (sym (same_is a x h))))
  | inr h ↦ (x, inr (ap (λ z. Min x z) (sym (same_is a y h))))
]
min_parts a t e = absurd (true≢false (sym e))

lt_parts : (a b : Tree) → is_lt_of a b ≡ true → (c : Tree) × (b ≡ Lt a c)
lt_parts a (Lt x y) e = (y, ap (λ z. Lt z y) (sym (same_is a x e)))
lt_parts a t e = absurd (true≢false (sym e))

before_parts : (a b : Tree) → is_lt_before a b ≡ true → (c : Tree) × (b ≡ Lt c a)
before_parts a (Lt x y) e = (x, ap (λ z. Lt x z) (sym (same_is a y e)))
before_parts a t e = absurd (true≢false (sym e))

inc_parts : (a b : Tree) → is_inc_of a b ≡ true → (c : ℕ) × (b ≡ Inc a c)
inc_parts a (Inc x c) e = (c, ap (λ z. Inc z c) (sym (same_is a x e)))
inc_parts a t e = absurd (true≢false (sym e))

-- what a law makes of a tree, it says

sound1 : (t u : Tree) → law1 t ≡ Some u → IsLaw1 t u
sound1 (Min a b) u e = let h = if_some (same_tree a b) a u e in (a, ap (λ z. Min a z) (sym (same_is a b h.0)), sym h.1)
sound1 t u e = cc

sound2 : (t u : Tree) → law2 t ≡ Some u → IsLaw2 t u
sound2 (Max a b) u e = let h = if_some (same_tree a b) a u e in (a, ap (λ z. Max a z) (sym (same_is a b h.0)), sym h.1)
sound2 t u e = cc

sound3 : (t u : Tree) → law3 t ≡ Some u → IsLaw3 t u
sound3 (Min a b) u e = elim (if_either (is_never b) (is_never a) a b u e) [
  | inl h ↦ (a, inl (ap (λ z. Min a z) (never_is b h.0)), sym h.1)
  | inr h ↦ (b, inr (ap (λ z. Min z b) (never_is a h.0)), sym h.1)
]
sound3 t u e = cc

sound4 : (t u : Tree) → law4 t ≡ Some u → IsLaw4 t u
sound4 (Max a b) u e = elim (if_either (is_never b) (is_never a) b a u e) [
  | inl h ↦ (a, inl (ap (λ z. Max a z) (never_is b h.0)), sym h.1 ∙ never_is b h.0)
  | inr h ↦ (b, inr (ap (λ z. Max z b) (never_is a h.0)), sym h.1 ∙ never_is a h.0)
]
sound4 t u e = cc

sound5 : (t u : Tree) → law5 t ≡ Some u → IsLaw5 t u
sound5 (Lt a b) u e = let h = if_some (same_tree a b) Never u e in (a, ap (λ z. Lt a z) (sym (same_is a b h.0)), sym h.1)
sound5 t u e = cc

sound6 : (t u : Tree) → law6 t ≡ Some u → IsLaw6 t u
sound6 (Lt a b) u e = let h = if_some (is_never a) a u e in (b, ap (λ z. Lt z b) (never_is a h.0), sym h.1 ∙ never_is a h.0)
sound6 t u e = cc

sound7 : (t u : Tree) → law7 t ≡ Some u → IsLaw7 t u
sound7 (Lt a b) u e = let h = if_some (is_never b) a u e in (a, ap (λ z. Lt a z) (never_is b h.0), sym h.1)
sound7 t u e = cc

sound8 : (t u : Tree) → law8 t ≡ Some u → IsLaw8 t u
sound8 (Inc (Inc a c) d) u e = let f : Inc a (c + d) ≡ u = cc in (a, c, d, refl, sym f)
sound8 t u e = cc

sound9 : (t u : Tree) → law9 t ≡ Some u → IsLaw9 t u
sound9 (Inc a c) u e = let h = if_some (is_never a) a u e in (c, ap (λ z. Inc z c) (never_is a h.0), sym h.1 ∙ never_is a h.0)
sound9 t u e = cc

sound10 : (t u : Tree) → law10 t ≡ Some u → IsLaw10 t u
sound10 (Min a b) u e = elim (if_either (is_max_of a b) (is_max_of b a) a b u e) [
  | inl h ↦ (let m = max_parts a b h.0 in (a, m.0, elim m.1 [ inl f ↦ inl (ap (λ z. Min a z) f) | inr f ↦ inr (inl (ap (λ z. Min a z) f)) ], sym h.1))
  | inr h ↦ (let m = max_parts b a h.0 in (b, m.0, elim m.1 [ inl f ↦ inr (inr (inl (ap (λ z. Min z b) f))) | inr f ↦ inr (inr (inr (ap (λ z. Min z b) f))) ], sym h.1))
]
sound10 t u e = cc

sound11 : (t u : Tree) → law11 t ≡ Some u → IsLaw11 t u
sound11 (Max a b) u e = elim (if_either (is_min_of a b) (is_min_of b a) a b u e) [
  | inl h ↦ (let m = min_parts a b h.0 in (a, m.0, elim m.1 [ inl f ↦ inl (ap (λ z. Max a z) f) | inr f ↦ inr (inl (ap (λ z. Max a z) f)) ], sym h.1))
  | inr h ↦ (let m = min_parts b a h.0 in (b, m.0, elim m.1 [ inl f ↦ inr (inr (inl (ap (λ z. Max z b) f))) | inr f ↦ inr (inr (inr (ap (λ z. Max z b) f))) ], sym h.1))
]
sound11 t u e = cc

sound12 : (t u : Tree) → law12 t ≡ Some u → IsLaw12 t u
sound12 (Lt a b) u e = let h = if_some (is_min_of a b) Never u e in let m = min_parts a b h.0 in (a, m.0, elim m.1 [ inl f ↦ inl (ap (λ z. Lt a z) f) | inr f ↦ inr (ap (λ z. Lt a z) f) ], sym h.1)
sound12 t u e = cc

sound13 : (t u : Tree) → law13 t ≡ Some u → IsLaw13 t u
sound13 (Lt a (Max p q)) u e = elim (if_either (same_tree a p) (same_tree a q) (Lt a q) (Lt a p) u e) [
  | inl h ↦ (a, q, inl (ap (λ z. Lt a (Max z q)) (sym (same_is a p h.0))), sym h.1)
  | inr h ↦ (a, p, inr (ap (λ z. Lt a (Max p z)) (sym (same_is a q h.0))), sym h.1)
]
sound13 t u e = cc

sound14 : (t u : Tree) → law14 t ≡ Some u → IsLaw14 t u
sound14 (Lt (Min p q) a) u e = elim (if_either (same_tree p a) (same_tree q a) (Lt q a) (Lt p a) u e) [
  | inl h ↦ (a, q, inl (ap (λ z. Lt (Min z q) a) (same_is p a h.0)), sym h.1)
  | inr h ↦ (a, p, inr (ap (λ z. Lt (Min p z) a) (same_is q a h.0)), sym h.1)
]
sound14 t u e = cc

sound15 : (t u : Tree) → law15 t ≡ Some u → IsLaw15 t u
sound15 (Lt a b) u e = let h = if_some (is_lt_before b a) a u e in let m = before_parts b a h.0 in (m.0, b, ap (λ z. Lt z b) m.1, sym h.1 ∙ m.1)
sound15 t u e = cc

sound16 : (t u : Tree) → law16 t ≡ Some u → IsLaw16 t u
sound16 (Min a b) u e = elim (if_either (is_lt_of a b) (is_lt_of b a) a b u e) [
  | inl h ↦ (let m = lt_parts a b h.0 in (a, m.0, inl (ap (λ z. Min a z) m.1), sym h.1))
  | inr h ↦ (let m = lt_parts b a h.0 in (b, m.0, inr (ap (λ z. Min z b) m.1), sym h.1))
]
sound16 t u e = cc

sound17 : (t u : Tree) → law17 t ≡ Some u → IsLaw17 t u
sound17 (Max a b) u e = elim (if_either (is_lt_of a b) (is_lt_of b a) b a u e) [
  | inl h ↦ (let m = lt_parts a b h.0 in (a, m.0, inl (ap (λ z. Max a z) m.1), sym h.1 ∙ m.1))
  | inr h ↦ (let m = lt_parts b a h.0 in (b, m.0, inr (ap (λ z. Max z b) m.1), sym h.1 ∙ m.1))
]
sound17 t u e = cc

sound18 : (t u : Tree) → law18 t ≡ Some u → IsLaw18 t u
sound18 (Lt a b) u e = let h = if_some (is_inc_of a b) a u e in let m = inc_parts a b h.0 in (a, m.0, ap (λ z. Lt a z) m.1, sym h.1)
sound18 t u e = cc

sound19 : (t u : Tree) → law19 t ≡ Some u → IsLaw19 t u
sound19 (Lt a b) u e = let h = if_some (is_inc_of b a) Never u e in let m = inc_parts b a h.0 in (b, m.0, ap (λ z. Lt z b) m.1, sym h.1)
sound19 t u e = cc

sound20 : (t u : Tree) → law20 t ≡ Some u → IsLaw20 t u
sound20 (Min (Lt b (Lt c a)) (Lt d (Lt f g))) u e =
    let h = if_some ((same_tree b c && same_tree b g) && (same_tree a d && same_tree a f)) (Max a b) u e in
    let k = both_are (same_tree b c && same_tree b g) (same_tree a d && same_tree a f) h.0 in
    let m = both_are (same_tree b c) (same_tree b g) k.0 in
    let n = both_are (same_tree a d) (same_tree a f) k.1 in
    let p = same_is b c m.0 in
    let q = same_is b g m.1 in
    let r = same_is a d n.0 in
    let w = same_is a f n.1 in
    let shape : Min (Lt b (Lt c a)) (Lt d (Lt f g)) ≡ Min (Lt b (Lt b a)) (Lt a (Lt a b)) = cc in
    (a, b, shape, sym h.1)
sound20 t u e = cc

-- and what is the left side of a law, it makes something of

some_none : (b : Bool) (x : Tree) → b ≡ true → (if b then Some x else None) ≡ None → ⊥
some_none true x e n = cc
some_none false x e n = true≢false (sym e)

either_none : (b c : Bool) (x y : Tree) → (b ≡ true) ⊎ (c ≡ true) → (if b then Some x else if c then Some y else None) ≡ None → ⊥
either_none true c x y h n = cc
either_none false true x y h n = cc
either_none false false x y h n = elim h [ inl e ↦ true≢false (sym e) | inr e ↦ true≢false (sym e) ]

no_value : (x : Tree) → Some x ≡ None → ⊥
no_value x n = cc

complete1 : (t u : Tree) → IsLaw1 t u → law1 t ≡ None → ⊥
complete1 t u l n = some_none (same_tree l.0 l.0) l.0 (same_refl l.0) (subst (λ z. law1 z ≡ None) l.1 n)

complete2 : (t u : Tree) → IsLaw2 t u → law2 t ≡ None → ⊥
complete2 t u l n = some_none (same_tree l.0 l.0) l.0 (same_refl l.0) (subst (λ z. law2 z ≡ None) l.1 n)

complete3 : (t u : Tree) → IsLaw3 t u → law3 t ≡ None → ⊥
complete3 t u l n = elim l.1 [
  | inl e ↦ no_value l.0 (subst (λ z. law3 z ≡ None) e n)
  | inr e ↦ either_none (is_never l.0) true Never l.0 (inr refl) (subst (λ z. law3 z ≡ None) e n)
]

complete4 : (t u : Tree) → IsLaw4 t u → law4 t ≡ None → ⊥
complete4 t u l n = elim l.1 [
  | inl e ↦ no_value Never (subst (λ z. law4 z ≡ None) e n)
  | inr e ↦ either_none (is_never l.0) true l.0 Never (inr refl) (subst (λ z. law4 z ≡ None) e n)
]

complete5 : (t u : Tree) → IsLaw5 t u → law5 t ≡ None → ⊥
complete5 t u l n = some_none (same_tree l.0 l.0) Never (same_refl l.0) (subst (λ z. law5 z ≡ None) l.1 n)

complete6 : (t u : Tree) → IsLaw6 t u → law6 t ≡ None → ⊥
complete6 t u l n = no_value Never (subst (λ z. law6 z ≡ None) l.1 n)

complete7 : (t u : Tree) → IsLaw7 t u → law7 t ≡ None → ⊥
complete7 t u l n = no_value l.0 (subst (λ z. law7 z ≡ None) l.1 n)

complete8 : (t u : Tree) → IsLaw8 t u → law8 t ≡ None → ⊥
complete8 t u l n = no_value (Inc l.0 (l.1 + l.2)) (subst (λ z. law8 z ≡ None) l.3 n)

complete9 : (t u : Tree) → IsLaw9 t u → law9 t ≡ None → ⊥
complete9 t u l n = no_value Never (subst (λ z. law9 z ≡ None) l.1 n)

complete10 : (t u : Tree) → IsLaw10 t u → law10 t ≡ None → ⊥
complete10 t u l n = elim l.2 [
  | inl e ↦ either_none (is_max_of l.0 (Max l.0 l.1)) (is_max_of (Max l.0 l.1) l.0) l.0 (Max l.0 l.1) (inl (or_left (same_tree l.0 l.0) (same_tree l.0 l.1) (same_refl l.0))) (subst (λ z. law10 z ≡ None) e n)
  | inr k ↦ elim k [
    | inl e ↦ either_none (is_max_of l.0 (Max l.1 l.0)) (is_max_of (Max l.1 l.0) l.0) l.0 (Max l.1 l.0) (inl (or_right (same_tree l.0 l.1) (same_tree l.0 l.0) (same_refl l.0))) (subst (λ z. law10 z ≡ None) e n)
    | inr p ↦ elim p [
      | inl e ↦ either_none (is_max_of (Max l.0 l.1) l.0) (is_max_of l.0 (Max l.0 l.1)) (Max l.0 l.1) l.0 (inr (or_left (same_tree l.0 l.0) (same_tree l.0 l.1) (same_refl l.0))) (subst (λ z. law10 z ≡ None) e n)
      | inr e ↦ either_none (is_max_of (Max l.1 l.0) l.0) (is_max_of l.0 (Max l.1 l.0)) (Max l.1 l.0) l.0 (inr (or_right (same_tree l.0 l.1) (same_tree l.0 l.0) (same_refl l.0))) (subst (λ z. law10 z ≡ None) e n)
    ]
  ]
]

complete11 : (t u : Tree) → IsLaw11 t u → law11 t ≡ None → ⊥
complete11 t u l n = elim l.2 [
  | inl e ↦ either_none (is_min_of l.0 (Min l.0 l.1)) (is_min_of (Min l.0 l.1) l.0) l.0 (Min l.0 l.1) (inl (or_left (same_tree l.0 l.0) (same_tree l.0 l.1) (same_refl l.0))) (subst (λ z. law11 z ≡ None) e n)
  | inr k ↦ elim k [
    | inl e ↦ either_none (is_min_of l.0 (Min l.1 l.0)) (is_min_of (Min l.1 l.0) l.0) l.0 (Min l.1 l.0) (inl (or_right (same_tree l.0 l.1) (same_tree l.0 l.0) (same_refl l.0))) (subst (λ z. law11 z ≡ None) e n)
    | inr p ↦ elim p [
      | inl e ↦ either_none (is_min_of (Min l.0 l.1) l.0) (is_min_of l.0 (Min l.0 l.1)) (Min l.0 l.1) l.0 (inr (or_left (same_tree l.0 l.0) (same_tree l.0 l.1) (same_refl l.0))) (subst (λ z. law11 z ≡ None) e n)
      | inr e ↦ either_none (is_min_of (Min l.1 l.0) l.0) (is_min_of l.0 (Min l.1 l.0)) (Min l.1 l.0) l.0 (inr (or_right (same_tree l.0 l.1) (same_tree l.0 l.0) (same_refl l.0))) (subst (λ z. law11 z ≡ None) e n)
    ]
  ]
]

complete12 : (t u : Tree) → IsLaw12 t u → law12 t ≡ None → ⊥
complete12 t u l n = elim l.2 [
  | inl e ↦ some_none (is_min_of l.0 (Min l.0 l.1)) Never (or_left (same_tree l.0 l.0) (same_tree l.0 l.1) (same_refl l.0)) (subst (λ z. law12 z ≡ None) e n)
  | inr e ↦ some_none (is_min_of l.0 (Min l.1 l.0)) Never (or_right (same_tree l.0 l.1) (same_tree l.0 l.0) (same_refl l.0)) (subst (λ z. law12 z ≡ None) e n)
]

complete13 : (t u : Tree) → IsLaw13 t u → law13 t ≡ None → ⊥
complete13 t u l n = elim l.2 [
  | inl e ↦ either_none (same_tree l.0 l.0) (same_tree l.0 l.1) (Lt l.0 l.1) (Lt l.0 l.0) (inl (same_refl l.0)) (subst (λ z. law13 z ≡ None) e n)
  | inr e ↦ either_none (same_tree l.0 l.1) (same_tree l.0 l.0) (Lt l.0 l.0) (Lt l.0 l.1) (inr (same_refl l.0)) (subst (λ z. law13 z ≡ None) e n)
]

complete14 : (t u : Tree) → IsLaw14 t u → law14 t ≡ None → ⊥
complete14 t u l n = elim l.2 [
  | inl e ↦ either_none (same_tree l.0 l.0) (same_tree l.1 l.0) (Lt l.1 l.0) (Lt l.0 l.0) (inl (same_refl l.0)) (subst (λ z. law14 z ≡ None) e n)
  | inr e ↦ either_none (same_tree l.1 l.0) (same_tree l.0 l.0) (Lt l.0 l.0) (Lt l.1 l.0) (inr (same_refl l.0)) (subst (λ z. law14 z ≡ None) e n)
]

complete15 : (t u : Tree) → IsLaw15 t u → law15 t ≡ None → ⊥
complete15 t u l n = some_none (same_tree l.1 l.1) (Lt l.0 l.1) (same_refl l.1) (subst (λ z. law15 z ≡ None) l.2 n)

complete16 : (t u : Tree) → IsLaw16 t u → law16 t ≡ None → ⊥
complete16 t u l n = elim l.2 [
  | inl e ↦ either_none (is_lt_of l.0 (Lt l.0 l.1)) (is_lt_of (Lt l.0 l.1) l.0) l.0 (Lt l.0 l.1) (inl (same_refl l.0)) (subst (λ z. law16 z ≡ None) e n)
  | inr e ↦ either_none (is_lt_of (Lt l.0 l.1) l.0) (is_lt_of l.0 (Lt l.0 l.1)) (Lt l.0 l.1) l.0 (inr (same_refl l.0)) (subst (λ z. law16 z ≡ None) e n)
]

complete17 : (t u : Tree) → IsLaw17 t u → law17 t ≡ None → ⊥
complete17 t u l n = elim l.2 [
  | inl e ↦ either_none (is_lt_of l.0 (Lt l.0 l.1)) (is_lt_of (Lt l.0 l.1) l.0) (Lt l.0 l.1) l.0 (inl (same_refl l.0)) (subst (λ z. law17 z ≡ None) e n)
  | inr e ↦ either_none (is_lt_of (Lt l.0 l.1) l.0) (is_lt_of l.0 (Lt l.0 l.1)) l.0 (Lt l.0 l.1) (inr (same_refl l.0)) (subst (λ z. law17 z ≡ None) e n)
]

complete18 : (t u : Tree) → IsLaw18 t u → law18 t ≡ None → ⊥
complete18 t u l n = some_none (same_tree l.0 l.0) l.0 (same_refl l.0) (subst (λ z. law18 z ≡ None) l.2 n)

complete19 : (t u : Tree) → IsLaw19 t u → law19 t ≡ None → ⊥
complete19 t u l n = some_none (same_tree l.0 l.0) Never (same_refl l.0) (subst (λ z. law19 z ≡ None) l.2 n)

and_true : (p q : Bool) → p ≡ true → q ≡ true → (p && q) ≡ true
and_true p q e f = ap (λ b. b && q) e ∙ f

complete20 : (t u : Tree) → IsLaw20 t u → law20 t ≡ None → ⊥
complete20 t u l n = some_none ((same_tree l.1 l.1 && same_tree l.1 l.1) && (same_tree l.0 l.0 && same_tree l.0 l.0)) (Max l.0 l.1)
    (and_true (same_tree l.1 l.1 && same_tree l.1 l.1) (same_tree l.0 l.0 && same_tree l.0 l.0) (and_true (same_tree l.1 l.1) (same_tree l.1 l.1) (same_refl l.1) (same_refl l.1)) (and_true (same_tree l.0 l.0) (same_tree l.0 l.0) (same_refl l.0) (same_refl l.0)))
    (subst (λ z. law20 z ≡ None) l.2 n)

-- the first law that fits

from_first : (o p : Option Tree) (u : Tree) → option_or o p ≡ Some u → (o ≡ Some u) ⊎ (p ≡ Some u)
from_first None p u e = inr e
from_first (Some t) p u e = inl e

none_first : (o p : Option Tree) → option_or o p ≡ None → (o ≡ None) × (p ≡ None)
none_first None p e = (refl, e)
none_first (Some t) p e = absurd (no_value t e)

-- what the function makes of a tree, a law says
pub law_sound : (t u : Tree) → law t ≡ Some u → IsLaw t u
unfolding law
law_sound t u e = elim (from_first (law1 t) (first_law (law2 ∷ law3 ∷ law4 ∷ law5 ∷ law6 ∷ law7 ∷ law8 ∷ law9 ∷ law10 ∷ law11 ∷ law12 ∷ law13 ∷ law14 ∷ law15 ∷ law16 ∷ law17 ∷ law18 ∷ law19 ∷ law20 ∷ []) t) u e) [
  | inl h ↦ inl (sound1 t u h)
  | inr e1 ↦ inr (elim (from_first (law2 t) (first_law (law3 ∷ law4 ∷ law5 ∷ law6 ∷ law7 ∷ law8 ∷ law9 ∷ law10 ∷ law11 ∷ law12 ∷ law13 ∷ law14 ∷ law15 ∷ law16 ∷ law17 ∷ law18 ∷ law19 ∷ law20 ∷ []) t) u e1) [
    | inl h ↦ inl (sound2 t u h)
    | inr e2 ↦ inr (elim (from_first (law3 t) (first_law (law4 ∷ law5 ∷ law6 ∷ law7 ∷ law8 ∷ law9 ∷ law10 ∷ law11 ∷ law12 ∷ law13 ∷ law14 ∷ law15 ∷ law16 ∷ law17 ∷ law18 ∷ law19 ∷ law20 ∷ []) t) u e2) [
      | inl h ↦ inl (sound3 t u h)
      | inr e3 ↦ inr (elim (from_first (law4 t) (first_law (law5 ∷ law6 ∷ law7 ∷ law8 ∷ law9 ∷ law10 ∷ law11 ∷ law12 ∷ law13 ∷ law14 ∷ law15 ∷ law16 ∷ law17 ∷ law18 ∷ law19 ∷ law20 ∷ []) t) u e3) [
        | inl h ↦ inl (sound4 t u h)
        | inr e4 ↦ inr (elim (from_first (law5 t) (first_law (law6 ∷ law7 ∷ law8 ∷ law9 ∷ law10 ∷ law11 ∷ law12 ∷ law13 ∷ law14 ∷ law15 ∷ law16 ∷ law17 ∷ law18 ∷ law19 ∷ law20 ∷ []) t) u e4) [
          | inl h ↦ inl (sound5 t u h)
          | inr e5 ↦ inr (elim (from_first (law6 t) (first_law (law7 ∷ law8 ∷ law9 ∷ law10 ∷ law11 ∷ law12 ∷ law13 ∷ law14 ∷ law15 ∷ law16 ∷ law17 ∷ law18 ∷ law19 ∷ law20 ∷ []) t) u e5) [
            | inl h ↦ inl (sound6 t u h)
            | inr e6 ↦ inr (elim (from_first (law7 t) (first_law (law8 ∷ law9 ∷ law10 ∷ law11 ∷ law12 ∷ law13 ∷ law14 ∷ law15 ∷ law16 ∷ law17 ∷ law18 ∷ law19 ∷ law20 ∷ []) t) u e6) [
              | inl h ↦ inl (sound7 t u h)
              | inr e7 ↦ inr (elim (from_first (law8 t) (first_law (law9 ∷ law10 ∷ law11 ∷ law12 ∷ law13 ∷ law14 ∷ law15 ∷ law16 ∷ law17 ∷ law18 ∷ law19 ∷ law20 ∷ []) t) u e7) [
                | inl h ↦ inl (sound8 t u h)
                | inr e8 ↦ inr (elim (from_first (law9 t) (first_law (law10 ∷ law11 ∷ law12 ∷ law13 ∷ law14 ∷ law15 ∷ law16 ∷ law17 ∷ law18 ∷ law19 ∷ law20 ∷ []) t) u e8) [
                  | inl h ↦ inl (sound9 t u h)
                  | inr e9 ↦ inr (elim (from_first (law10 t) (first_law (law11 ∷ law12 ∷ law13 ∷ law14 ∷ law15 ∷ law16 ∷ law17 ∷ law18 ∷ law19 ∷ law20 ∷ []) t) u e9) [
                    | inl h ↦ inl (sound10 t u h)
                    | inr e10 ↦ inr (elim (from_first (law11 t) (first_law (law12 ∷ law13 ∷ law14 ∷ law15 ∷ law16 ∷ law17 ∷ law18 ∷ law19 ∷ law20 ∷ []) t) u e10) [
                      | inl h ↦ inl (sound11 t u h)
                      | inr e11 ↦ inr (elim (from_first (law12 t) (first_law (law13 ∷ law14 ∷ law15 ∷ law16 ∷ law17 ∷ law18 ∷ law19 ∷ law20 ∷ []) t) u e11) [
                        | inl h ↦ inl (sound12 t u h)
                        | inr e12 ↦ inr (elim (from_first (law13 t) (first_law (law14 ∷ law15 ∷ law16 ∷ law17 ∷ law18 ∷ law19 ∷ law20 ∷ []) t) u e12) [
                          | inl h ↦ inl (sound13 t u h)
                          | inr e13 ↦ inr (elim (from_first (law14 t) (first_law (law15 ∷ law16 ∷ law17 ∷ law18 ∷ law19 ∷ law20 ∷ []) t) u e13) [
                            | inl h ↦ inl (sound14 t u h)
                            | inr e14 ↦ inr (elim (from_first (law15 t) (first_law (law16 ∷ law17 ∷ law18 ∷ law19 ∷ law20 ∷ []) t) u e14) [
                              | inl h ↦ inl (sound15 t u h)
                              | inr e15 ↦ inr (elim (from_first (law16 t) (first_law (law17 ∷ law18 ∷ law19 ∷ law20 ∷ []) t) u e15) [
                                | inl h ↦ inl (sound16 t u h)
                                | inr e16 ↦ inr (elim (from_first (law17 t) (first_law (law18 ∷ law19 ∷ law20 ∷ []) t) u e16) [
                                  | inl h ↦ inl (sound17 t u h)
                                  | inr e17 ↦ inr (elim (from_first (law18 t) (first_law (law19 ∷ law20 ∷ []) t) u e17) [
                                    | inl h ↦ inl (sound18 t u h)
                                    | inr e18 ↦ inr (elim (from_first (law19 t) (first_law (law20 ∷ []) t) u e18) [
                                      | inl h ↦ inl (sound19 t u h)
                                      | inr e19 ↦ inr (elim (from_first (law20 t) None u e19) [
                                        | inl h ↦ sound20 t u h
                                        | inr h ↦ absurd (no_value u (sym h))
                                      ])
                                    ])
                                  ])
                                ])
                              ])
                            ])
                          ])
                        ])
                      ])
                    ])
                  ])
                ])
              ])
            ])
          ])
        ])
      ])
    ])
  ])
]

-- a tree of which the function makes nothing is no law's left side
pub law_complete : (t u : Tree) → IsLaw t u → law t ≡ None → ⊥
unfolding law
law_complete t u l n =
    let n1 = none_first (law1 t) (first_law (law2 ∷ law3 ∷ law4 ∷ law5 ∷ law6 ∷ law7 ∷ law8 ∷ law9 ∷ law10 ∷ law11 ∷ law12 ∷ law13 ∷ law14 ∷ law15 ∷ law16 ∷ law17 ∷ law18 ∷ law19 ∷ law20 ∷ []) t) n in
    let n2 = none_first (law2 t) (first_law (law3 ∷ law4 ∷ law5 ∷ law6 ∷ law7 ∷ law8 ∷ law9 ∷ law10 ∷ law11 ∷ law12 ∷ law13 ∷ law14 ∷ law15 ∷ law16 ∷ law17 ∷ law18 ∷ law19 ∷ law20 ∷ []) t) n1.1 in
    let n3 = none_first (law3 t) (first_law (law4 ∷ law5 ∷ law6 ∷ law7 ∷ law8 ∷ law9 ∷ law10 ∷ law11 ∷ law12 ∷ law13 ∷ law14 ∷ law15 ∷ law16 ∷ law17 ∷ law18 ∷ law19 ∷ law20 ∷ []) t) n2.1 in
    let n4 = none_first (law4 t) (first_law (law5 ∷ law6 ∷ law7 ∷ law8 ∷ law9 ∷ law10 ∷ law11 ∷ law12 ∷ law13 ∷ law14 ∷ law15 ∷ law16 ∷ law17 ∷ law18 ∷ law19 ∷ law20 ∷ []) t) n3.1 in
    let n5 = none_first (law5 t) (first_law (law6 ∷ law7 ∷ law8 ∷ law9 ∷ law10 ∷ law11 ∷ law12 ∷ law13 ∷ law14 ∷ law15 ∷ law16 ∷ law17 ∷ law18 ∷ law19 ∷ law20 ∷ []) t) n4.1 in
    let n6 = none_first (law6 t) (first_law (law7 ∷ law8 ∷ law9 ∷ law10 ∷ law11 ∷ law12 ∷ law13 ∷ law14 ∷ law15 ∷ law16 ∷ law17 ∷ law18 ∷ law19 ∷ law20 ∷ []) t) n5.1 in
    let n7 = none_first (law7 t) (first_law (law8 ∷ law9 ∷ law10 ∷ law11 ∷ law12 ∷ law13 ∷ law14 ∷ law15 ∷ law16 ∷ law17 ∷ law18 ∷ law19 ∷ law20 ∷ []) t) n6.1 in
    let n8 = none_first (law8 t) (first_law (law9 ∷ law10 ∷ law11 ∷ law12 ∷ law13 ∷ law14 ∷ law15 ∷ law16 ∷ law17 ∷ law18 ∷ law19 ∷ law20 ∷ []) t) n7.1 in
    let n9 = none_first (law9 t) (first_law (law10 ∷ law11 ∷ law12 ∷ law13 ∷ law14 ∷ law15 ∷ law16 ∷ law17 ∷ law18 ∷ law19 ∷ law20 ∷ []) t) n8.1 in
    let n10 = none_first (law10 t) (first_law (law11 ∷ law12 ∷ law13 ∷ law14 ∷ law15 ∷ law16 ∷ law17 ∷ law18 ∷ law19 ∷ law20 ∷ []) t) n9.1 in
    let n11 = none_first (law11 t) (first_law (law12 ∷ law13 ∷ law14 ∷ law15 ∷ law16 ∷ law17 ∷ law18 ∷ law19 ∷ law20 ∷ []) t) n10.1 in
    let n12 = none_first (law12 t) (first_law (law13 ∷ law14 ∷ law15 ∷ law16 ∷ law17 ∷ law18 ∷ law19 ∷ law20 ∷ []) t) n11.1 in
    let n13 = none_first (law13 t) (first_law (law14 ∷ law15 ∷ law16 ∷ law17 ∷ law18 ∷ law19 ∷ law20 ∷ []) t) n12.1 in
    let n14 = none_first (law14 t) (first_law (law15 ∷ law16 ∷ law17 ∷ law18 ∷ law19 ∷ law20 ∷ []) t) n13.1 in
    let n15 = none_first (law15 t) (first_law (law16 ∷ law17 ∷ law18 ∷ law19 ∷ law20 ∷ []) t) n14.1 in
    let n16 = none_first (law16 t) (first_law (law17 ∷ law18 ∷ law19 ∷ law20 ∷ []) t) n15.1 in
    let n17 = none_first (law17 t) (first_law (law18 ∷ law19 ∷ law20 ∷ []) t) n16.1 in
    let n18 = none_first (law18 t) (first_law (law19 ∷ law20 ∷ []) t) n17.1 in
    let n19 = none_first (law19 t) (first_law (law20 ∷ []) t) n18.1 in
    let n20 = none_first (law20 t) None n19.1 in
    elim l [
      | inl k ↦ complete1 t u k n1.0
      | inr m1 ↦ elim m1 [
        | inl k ↦ complete2 t u k n2.0
        | inr m2 ↦ elim m2 [
          | inl k ↦ complete3 t u k n3.0
          | inr m3 ↦ elim m3 [
            | inl k ↦ complete4 t u k n4.0
            | inr m4 ↦ elim m4 [
              | inl k ↦ complete5 t u k n5.0
              | inr m5 ↦ elim m5 [
                | inl k ↦ complete6 t u k n6.0
                | inr m6 ↦ elim m6 [
                  | inl k ↦ complete7 t u k n7.0
                  | inr m7 ↦ elim m7 [
                    | inl k ↦ complete8 t u k n8.0
                    | inr m8 ↦ elim m8 [
                      | inl k ↦ complete9 t u k n9.0
                      | inr m9 ↦ elim m9 [
                        | inl k ↦ complete10 t u k n10.0
                        | inr m10 ↦ elim m10 [
                          | inl k ↦ complete11 t u k n11.0
                          | inr m11 ↦ elim m11 [
                            | inl k ↦ complete12 t u k n12.0
                            | inr m12 ↦ elim m12 [
                              | inl k ↦ complete13 t u k n13.0
                              | inr m13 ↦ elim m13 [
                                | inl k ↦ complete14 t u k n14.0
                                | inr m14 ↦ elim m14 [
                                  | inl k ↦ complete15 t u k n15.0
                                  | inr m15 ↦ elim m15 [
                                    | inl k ↦ complete16 t u k n16.0
                                    | inr m16 ↦ elim m16 [
                                      | inl k ↦ complete17 t u k n17.0
                                      | inr m17 ↦ elim m17 [
                                        | inl k ↦ complete18 t u k n18.0
                                        | inr m18 ↦ elim m18 [
                                          | inl k ↦ complete19 t u k n19.0
                                          | inr k ↦ complete20 t u k n20.0
                                        ]
                                      ]
                                    ]
                                  ]
                                ]
                              ]
                            ]
                          ]
                        ]
                      ]
                    ]
                  ]
                ]
              ]
            ]
          ]
        ]
      ]
    ]

-- the law with the lowest number that fits is a step
pub law_step : (t u : Tree) → law t ≡ Some u → IsStep t u
law_step t u e = step_of t u (law_sound t u e)
