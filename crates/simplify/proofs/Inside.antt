-- What is inside a simplified tree, and what it came of.
use Rattle.std.proofs.Common.{◌≡◌, ℕ, zero, suc, ◌≤◌, refl, ap, subst, arith, sym, ◌∙◌, Option, Some, None, inl, inr, ◌⊎◌}
use Rattle.term_store.specs.Tree.{Tree, Never, Input, Min, Max, Lt, Inc}
use Rattle.term_store.proofs.Parts.{IsIn}
use Rattle.simplify.specs.Simplified.{size, law, or_else, settle, settled, simplified}
use Rattle.simplify.proofs.Stepping.{FitsNone, FitsNoneBelow, IsBelow, kind, IsStep}
use Rattle.simplify.proofs.Steps.{in_cases}
use Rattle.simplify.proofs.Matching.{law_step}
use Rattle.simplify.proofs.Simp.{settle_stays, simp_good, never_none}

-- what is in a reduced tree is reduced
pub reduced_in : (s t : Tree) → FitsNone t → IsIn s t → FitsNone s
reduced_in s (Input i) r h = subst FitsNone (sym h) r
reduced_in s Never r h = subst FitsNone (sym h) r
reduced_in s (Min a b) r h = elim h [
  | inl e ↦ subst FitsNone (sym e) r
  | inr k ↦ elim k [ inl p ↦ reduced_in s a r.1 p | inr q ↦ reduced_in s b r.2 q ]
]
reduced_in s (Max a b) r h = elim h [
  | inl e ↦ subst FitsNone (sym e) r
  | inr k ↦ elim k [ inl p ↦ reduced_in s a r.1 p | inr q ↦ reduced_in s b r.2 q ]
]
reduced_in s (Lt a b) r h = elim h [
  | inl e ↦ subst FitsNone (sym e) r
  | inr k ↦ elim k [ inl p ↦ reduced_in s a r.1 p | inr q ↦ reduced_in s b r.2 q ]
]
reduced_in s (Inc a c) r h = elim h [ inl e ↦ subst FitsNone (sym e) r | inr k ↦ reduced_in s a r.1 k ]

pub reduced_below : (s t : Tree) → FitsNoneBelow t → IsBelow s t → FitsNone s
reduced_below s (Input i) r h = absurd h
reduced_below s Never r h = absurd h
reduced_below s (Min a b) r h = elim h [ inl p ↦ reduced_in s a r.0 p | inr q ↦ reduced_in s b r.1 q ]
reduced_below s (Max a b) r h = elim h [ inl p ↦ reduced_in s a r.0 p | inr q ↦ reduced_in s b r.1 q ]
reduced_below s (Lt a b) r h = elim h [ inl p ↦ reduced_in s a r.0 p | inr q ↦ reduced_in s b r.1 q ]
reduced_below s (Inc a c) r h = reduced_in s a r h

pub no_law : (t : Tree) → FitsNone t → law t ≡ None
no_law (Input i) r = r
no_law Never r = r
no_law (Min a b) r = r.0
no_law (Max a b) r = r.0
no_law (Lt a b) r = r.0
no_law (Inc a c) r = r.0

-- u came of t law by law
pub record CameOf (t u : Tree) : Type 0 where
  pub inner : (s : Tree) → IsBelow s u → IsBelow s t
  pub root : IsBelow u t ⊎ ((kind u ≡ kind t) ⊎ (u ≡ Never))

came_here : (t : Tree) → CameOf t t
came_here t = record { inner = λ s h. h; root = inr (inl refl) }

came_after : (n : ℕ) (t u : Tree) → FitsNoneBelow t → IsStep t u → CameOf u (settle n u) → CameOf t (settle n u)
came_after n t u r s c = record {
  inner = λ x h. s.inner x (c.inner x h);
  root = elim s.root [
    | inl b ↦ subst (λ v. IsBelow v t ⊎ ((kind v ≡ kind t) ⊎ (v ≡ Never))) (sym (settle_stays n u (no_law u (reduced_below u t r b)))) (inl b)
    | inr k ↦ elim c.root [
      | inl b ↦ inl (s.inner (settle n u) b)
      | inr m ↦ elim m [
        | inl e ↦ elim k [ inl f ↦ inr (inl (e ∙ f)) | inr f ↦ inr (inr (settle_stays n u (ap law f ∙ never_none) ∙ f)) ]
        | inr e ↦ inr (inr e)
      ]
    ]
  ];
}

pub settle_came : (n : ℕ) (t : Tree) → FitsNoneBelow t → CameOf t (settle n t)
settle_came zero t r = came_here t
settle_came (suc n) t r = go (law t) refl (λ u k. settle_came n u k)
  where
    go : (o : Option Tree) → law t ≡ o → ((u : Tree) → FitsNoneBelow u → CameOf u (settle n u)) → CameOf t (or_else o (settle n) t)
    go None e rest = came_here t
    go (Some u) e rest = let s = law_step t u e in came_after n t u r s (rest u (s.below r))

-- an operator of t that simplifies to s
abbrev pub StandsFor : Tree → Tree → ℕ → Type 0
StandsFor t s k = (u : Tree) × IsIn u t × (kind u ≡ k) × (simplified u ≡ s)

-- each operator in a simplified tree is what an operator of its kind in the tree simplifies to
pub stands_for : (t s : Tree) (k : ℕ) → 1 ≤ k → kind s ≡ k → IsIn s (simplified t) → StandsFor t s k
stands_for (Input i) s k pos e h = absurd (omega (arith, e, ap kind h))
stands_for Never s k pos e h = absurd (omega (arith, e, ap kind h))
stands_for (Min a b) s k pos e h =
    let t = Min (simplified a) (simplified b) in
    let p = simp_good a in
    let q = simp_good b in
    let c : CameOf t (settled t) = settle_came (size t) t (p.reduced, q.reduced) in
    let up : IsBelow s t → StandsFor (Min a b) s k = λ (g : IsBelow s t). elim g [
      | inl x ↦ (let w = stands_for a s k pos e x in (w.0, inr (inl w.1), w.2, w.3))
      | inr y ↦ (let w = stands_for b s k pos e y in (w.0, inr (inr w.1), w.2, w.3))
    ] in
    elim (in_cases s (settled t) h) [
      | inl f ↦ elim c.root [
        | inl g ↦ up (subst (λ v. IsBelow v t) (sym f) g)
        | inr g ↦ elim g [
          | inl m ↦ (Min a b, inl refl, sym m ∙ ap kind (sym f) ∙ e, sym f)
          | inr z ↦ absurd (omega (arith, e, ap kind f, ap kind z))
        ]
      ]
      | inr g ↦ up (c.inner s g)
    ]
stands_for (Max a b) s k pos e h =
    let t = Max (simplified a) (simplified b) in
    let p = simp_good a in
    let q = simp_good b in
    let c : CameOf t (settled t) = settle_came (size t) t (p.reduced, q.reduced) in
    let up : IsBelow s t → StandsFor (Max a b) s k = λ (g : IsBelow s t). elim g [
      | inl x ↦ (let w = stands_for a s k pos e x in (w.0, inr (inl w.1), w.2, w.3))
      | inr y ↦ (let w = stands_for b s k pos e y in (w.0, inr (inr w.1), w.2, w.3))
    ] in
    elim (in_cases s (settled t) h) [
      | inl f ↦ elim c.root [
        | inl g ↦ up (subst (λ v. IsBelow v t) (sym f) g)
        | inr g ↦ elim g [
          | inl m ↦ (Max a b, inl refl, sym m ∙ ap kind (sym f) ∙ e, sym f)
          | inr z ↦ absurd (omega (arith, e, ap kind f, ap kind z))
        ]
      ]
      | inr g ↦ up (c.inner s g)
    ]
stands_for (Lt a b) s k pos e h =
    let t = Lt (simplified a) (simplified b) in
    let p = simp_good a in
    let q = simp_good b in
    let c : CameOf t (settled t) = settle_came (size t) t (p.reduced, q.reduced) in
    let up : IsBelow s t → StandsFor (Lt a b) s k = λ (g : IsBelow s t). elim g [
      | inl x ↦ (let w = stands_for a s k pos e x in (w.0, inr (inl w.1), w.2, w.3))
      | inr y ↦ (let w = stands_for b s k pos e y in (w.0, inr (inr w.1), w.2, w.3))
    ] in
    elim (in_cases s (settled t) h) [
      | inl f ↦ elim c.root [
        | inl g ↦ up (subst (λ v. IsBelow v t) (sym f) g)
        | inr g ↦ elim g [
          | inl m ↦ (Lt a b, inl refl, sym m ∙ ap kind (sym f) ∙ e, sym f)
          | inr z ↦ absurd (omega (arith, e, ap kind f, ap kind z))
        ]
      ]
      | inr g ↦ up (c.inner s g)
    ]
stands_for (Inc a c) s k pos e h =
    let t = Inc (simplified a) c in
    let p = simp_good a in
    let d : CameOf t (settled t) = settle_came (size t) t p.reduced in
    let up : IsBelow s t → StandsFor (Inc a c) s k = λ (g : IsBelow s t). (let w = stands_for a s k pos e g in (w.0, inr w.1, w.2, w.3)) in
    elim (in_cases s (settled t) h) [
      | inl f ↦ elim d.root [
        | inl g ↦ up (subst (λ v. IsBelow v t) (sym f) g)
        | inr g ↦ elim g [
          | inl m ↦ (Inc a c, inl refl, sym m ∙ ap kind (sym f) ∙ e, sym f)
          | inr z ↦ absurd (omega (arith, e, ap kind f, ap kind z))
        ]
      ]
      | inr g ↦ up (d.inner s g)
    ]

-- what is in a settled tree is below the tree, or of its kind, or never
came_in : (s t : Tree) → FitsNoneBelow t → IsIn s (settled t) → IsBelow s t ⊎ ((kind s ≡ kind t) ⊎ (s ≡ Never))
came_in s t r h = let c = settle_came (size t) t r in
    elim (in_cases s (settled t) h) [
      | inl f ↦ elim c.root [
        | inl g ↦ inl (subst (λ v. IsBelow v t) (sym f) g)
        | inr g ↦ elim g [ inl m ↦ inr (inl (ap kind f ∙ m)) | inr z ↦ inr (inr (f ∙ z)) ]
      ]
      | inr g ↦ inl (c.inner s g)
    ]

no_input : (i k : ℕ) → 1 ≤ k → ((0 ≡ k) ⊎ (Input i ≡ Never)) → ⊥
no_input i k pos h = elim h [ inl m ↦ omega (arith, m, pos) | inr z ↦ cc ]

-- an input of a simplified tree is an input of the tree
pub input_in : (i : ℕ) (t : Tree) → IsIn (Input i) (simplified t) → IsIn (Input i) t
input_in i (Input j) h = h
input_in i Never h = h
input_in i (Min a b) h = elim (came_in (Input i) (Min (simplified a) (simplified b)) ((simp_good a).reduced, (simp_good b).reduced) h) [
  | inl k ↦ inr (elim k [ inl x ↦ inl (input_in i a x) | inr y ↦ inr (input_in i b y) ])
  | inr k ↦ absurd (no_input i 1 (omega arith) k)
]
input_in i (Max a b) h = elim (came_in (Input i) (Max (simplified a) (simplified b)) ((simp_good a).reduced, (simp_good b).reduced) h) [
  | inl k ↦ inr (elim k [ inl x ↦ inl (input_in i a x) | inr y ↦ inr (input_in i b y) ])
  | inr k ↦ absurd (no_input i 1 (omega arith) k)
]
input_in i (Lt a b) h = elim (came_in (Input i) (Lt (simplified a) (simplified b)) ((simp_good a).reduced, (simp_good b).reduced) h) [
  | inl k ↦ inr (elim k [ inl x ↦ inl (input_in i a x) | inr y ↦ inr (input_in i b y) ])
  | inr k ↦ absurd (no_input i 1 (omega arith) k)
]
input_in i (Inc a c) h = elim (came_in (Input i) (Inc (simplified a) c) (simp_good a).reduced h) [
  | inl k ↦ inr (input_in i a k)
  | inr k ↦ absurd (no_input i 2 (omega arith) k)
]
