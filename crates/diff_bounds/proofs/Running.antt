-- The steps of a search keep what it rests on, and at its end the kept solution, raised, is one.
use Rattle.std.proofs.Common.{◌≡◌, ℕ, zero, suc, ◌<◌, ◌≤◌, ◌+◌, refl, ap, subst, arith, sym, ◌∙◌, List, [], ◌∷◌, inl, inr, ◌⊎◌, length}
use Rattle.std.specs.Prelude.{if◌then◌else◌, pos, ◌+ℤ◌, ◌-ℤ◌, ◌≤ℤ◌, nat_lt}
use Rattle.std.proofs.lemmas.Int.{ints}
use Rattle.std.proofs.lemmas.Bool.Decides.{nat_tests}
use Rattle.refutation.specs.declared.assumption.Assumption.{Assumption}
use Rattle.refutation.specs.Path.{Meets, at}
use Rattle.diff_bounds.specs.Search.{raised, IsHeld, IsStep, IsRunning, AreMet, IsLast, IsRelaxed, of, unset}

pub same_or : (a b : ℕ) → (a ≡ b) ⊎ ((a < b) ⊎ (b < a))
same_or a b = grind arith

-- the assumptions from h to e are met already or held, or lead elsewhere
pub skip : (n : ℕ) (edges : List Assumption) (y d v t : ℕ → ℕ) (turn target limit k e h : ℕ) → IsRunning n edges y d v t turn target limit k e
    → ((f : ℕ) → h ≤ f → f < e → (at edges f).to ≡ k → Meets (raised y d) (at edges f) ⊎ IsHeld edges f) → IsRunning n edges y d v t turn target limit k h
skip n edges y d v t turn target limit k e h r met = record {
  here = r.here;
  most = r.most;
  order = r.order;
  top = r.top;
  steps = r.steps;
  late = r.late;
  turns = r.turns;
  closed = λ f hf. elim (r.closed f hf) [
    | inl a ↦ inl a
    | inr (inr m) ↦ inr (inr m)
    | inr (inl p) ↦ elim (below f h) [
      | inl lt ↦ inr (inl (p.0, lt))
      | inr le ↦ inr (inr (met f le p.1 p.0))
    ]
  ];
}
  where
    below : (a b : ℕ) → (a < b) ⊎ (b ≤ a)
    below a b = grind arith

-- e leads to k, and its beginning a is lowered to what it allows
record IsLoweredTo (edges : List Assumption) (y d v d' v' : ℕ → ℕ) (a k e : ℕ) : Type 0 where
  others : (l : ℕ) → (l ≡ a) ⊎ ((d' l ≡ d l) × (v' l ≡ v l))
  less : d' a < d a
  via : v' a ≡ e
  exact : raised y d' a ≡ ((at edges e).bound +ℤ raised y d k)

lower_at : (n : ℕ) (edges : List Assumption) (y d v t d' v' : ℕ → ℕ) (turn target limit a k e : ℕ) → AreMet n edges y
    → IsRunning n edges y d v t turn target limit k (e + 1) → k < n → t k < n → e < length edges → (at edges e).from ≡ a → (at edges e).to ≡ k
    → IsLoweredTo edges y d v d' v' a k e → IsRunning n edges y d' v' t turn target limit k e
lower_at n edges y d v t d' v' turn target limit a k e met r hk settled he from to low = record {
  here = same target target_not ∙ r.here;
  most = λ l h. elim (low.others l) [ inl q ↦ let m = r.most l h in let s = less_at l q in omega (arith, m, s) | inr s ↦ let m = r.most l h in let i = s.0 in omega (arith, m, i) ];
  order = λ p q hp hq tp tq. let dp = same p (settled_not p hp tp) in elim (low.others q) [
    | inl i ↦ let m = r.top p hp tp in let w = subst (λ (q : ℕ). d k ≤ d' q) (sym i) high in omega (arith, m, w, dp)
    | inr s ↦ let m = r.order p q hp hq tp tq in let i = s.0 in omega (arith, m, i, dp)
  ];
  top = λ p hp tp. let m = r.top p hp tp in let dp = same p (settled_not p hp tp) in let dk = k_same in omega (arith, m, dp, dk);
  closed = λ f h. elim (r.closed f h) [
    | inl u ↦ inl u
    | inr (inr (inl m)) ↦ keeps f h m
    | inr (inr (inr i)) ↦ inr (inr (inr i))
    | inr (inl p) ↦ elim (same_or e f) [
      | inl q ↦ inr (inr (inl (subst (λ (f : ℕ). Meets (raised y d') (at edges f)) q at_e)))
      | inr (inl lt) ↦ let le = p.1 in absurd (omega (arith, lt, le))
      | inr (inr gt) ↦ inr (inl (p.0, gt))
    ]
  ];
  steps = λ l h. elim (low.others l) [
    | inl q ↦ inr (inr (subst (λ (l : ℕ). IsStep n edges y d' v' t l) (sym q) new_step))
    | inr s ↦ elim (r.steps l h) [
      | inl i ↦ inl i
      | inr (inl m) ↦ let i = s.0 in inr (inl (omega (arith, m, i)))
      | inr (inr step) ↦ inr (inr (old_step l h s.0 s.1 step))
    ]
  ];
  late = r.late;
  turns = r.turns;
}
  where
    less_at : (l : ℕ) → l ≡ a → d' l < d l
    less_at l q = subst (λ (l : ℕ). d' l < d l) (sym q) low.less

    ha : a < n
    ha = subst (λ (a : ℕ). a < n) from (met e he).0

    met_e : (pos (y a) -ℤ pos (y k)) ≤ℤ (at edges e).bound
    met_e = subst (λ (b : ℕ). (pos (y a) -ℤ pos (y b)) ≤ℤ (at edges e).bound) to (subst (λ (b : ℕ). (pos (y b) -ℤ pos (y (at edges e).to)) ≤ℤ (at edges e).bound) from (met e he).1.1.0)

    high : d k ≤ d' a
    high = let x = low.exact in let m = met_e in omega (arith, ints, x, m)

    unsettled : n ≤ t a
    unsettled = elim (r.late a ha) [
      | inl lt ↦ let ts = r.turns in let m = r.top a ha (omega (arith, lt, ts)) in let s = low.less in let h = high in absurd (omega (arith, m, s, h))
      | inr i ↦ omega (arith, i)
    ]

    same : (l : ℕ) → (l < a) ⊎ ((a < l) ⊎ (d' a < d l → ⊥)) → d' l ≡ d l
    same l why = elim (low.others l) [
      | inr s ↦ s.0
      | inl q ↦ elim why [
        | inl lt ↦ absurd (omega (arith, lt, q))
        | inr (inl gt) ↦ absurd (omega (arith, gt, q))
        | inr (inr f) ↦ absurd (f (subst (λ (l : ℕ). d' a < d l) (sym q) low.less))
      ]
    ]

    target_not : (target < a) ⊎ ((a < target) ⊎ (d' a < d target → ⊥))
    target_not = inr (inr (λ s. let z = r.here in omega (arith, s, z)))

    settled_not : (p : ℕ) → p < n → t p < n → (p < a) ⊎ ((a < p) ⊎ (d' a < d p → ⊥))
    settled_not p hp tp = inr (inr (λ s. let m = r.top p hp tp in let h = high in omega (arith, m, s, h)))

    k_same : d' k ≡ d k
    k_same = same k (settled_not k hk settled)

    at_e : Meets (raised y d') (at edges e)
    at_e = subst (λ (b : ℕ). (raised y d' b -ℤ raised y d' (at edges e).to) ≤ℤ (at edges e).bound) (sym from)
        (subst (λ (b : ℕ). (raised y d' a -ℤ raised y d' b) ≤ℤ (at edges e).bound) (sym to)
        (let x = low.exact in let i = k_same in omega (arith, ints, x, i)))

    new_step : IsStep n edges y d' v' t a
    new_step = record {
      known = subst (λ (e : ℕ). e < length edges) (sym low.via) he;
      from = subst (λ (e : ℕ). (at edges e).from ≡ a) (sym low.via) from;
      to = subst (λ (e : ℕ). (at edges e).to < n) (sym low.via) (met e he).1.0;
      before = subst (λ (e : ℕ). t (at edges e).to < t a) (sym low.via) (subst (λ (b : ℕ). t b < t a) (sym to) (let u = unsettled in omega (arith, u, settled)));
      exact = subst (λ (e : ℕ). raised y d' a ≡ (at edges e).bound +ℤ raised y d' (at edges e).to) (sym low.via)
          (subst (λ (b : ℕ). raised y d' a ≡ (at edges e).bound +ℤ raised y d' b) (sym to)
          (let x = low.exact in let i = k_same in omega (arith, ints, x, i)));
    }

    to_settled : (l : ℕ) → l < n → (b : ℕ) → t b < t l → t b < n
    to_settled l h b lt = elim (r.late l h) [ inl x ↦ let ts = r.turns in omega (arith, x, ts, lt) | inr i ↦ omega (arith, i, lt) ]

    old_step : (l : ℕ) → l < n → d' l ≡ d l → v' l ≡ v l → IsStep n edges y d v t l → IsStep n edges y d' v' t l
    old_step l h di vi step =
        let b = (at edges (v l)).to in
        let bi = same b (settled_not b step.to (to_settled l h b step.before)) in record {
          known = subst (λ (e : ℕ). e < length edges) (sym vi) step.known;
          from = subst (λ (e : ℕ). (at edges e).from ≡ l) (sym vi) step.from;
          to = subst (λ (e : ℕ). (at edges e).to < n) (sym vi) step.to;
          before = subst (λ (e : ℕ). t (at edges e).to < t l) (sym vi) step.before;
          exact = subst (λ (e : ℕ). raised y d' l ≡ (at edges e).bound +ℤ raised y d' (at edges e).to) (sym vi)
              (let x = step.exact in omega (arith, ints, x, di, bi));
        }

    lowers : (l : ℕ) → d' l ≤ d l
    lowers l = elim (low.others l) [ inl q ↦ let s = less_at l q in omega (arith, s) | inr s ↦ let i = s.0 in omega (arith, i) ]

    keeps : (f : ℕ) → f < length edges → Meets (raised y d) (at edges f) → (n ≤ t (at edges f).to) ⊎ ((((at edges f).to ≡ k) × (f < e)) ⊎ (Meets (raised y d') (at edges f) ⊎ IsHeld edges f))
    keeps f h m = let b = (at edges f).to in let hb = (met f h).1.0 in elim (r.late b hb) [
      | inr i ↦ inl (omega (arith, i))
      | inl lt ↦ let ts = r.turns in let i = same b (settled_not b hb (omega (arith, lt, ts))) in let g = lowers (at edges f).from in inr (inr (inl (omega (arith, ints, m, i, g))))
    ]

-- k, the nearest that is not settled, is settled
pub settle : (n : ℕ) (edges : List Assumption) (y d v t t' : ℕ → ℕ) (turn target limit k0 k : ℕ) → AreMet n edges y
    → IsRunning n edges y d v t turn target limit k0 0 → k < n → n ≤ t k → turn < n
    → ((l : ℕ) → l < n → n ≤ t l → d k ≤ d l)
    → t' k ≡ turn → ((l : ℕ) → (l ≡ k) ⊎ (t' l ≡ t l))
    → IsRunning n edges y d v t' (turn + 1) target limit k (length edges)
settle n edges y d v t t' turn target limit k0 k met r hk unset few nearest new others = record {
  here = r.here;
  most = r.most;
  order = λ a b ha hb ta tb. elim (others a) [
    | inl q ↦ subst (λ (a : ℕ). d a ≤ d b) (sym q) (nearest b hb (still b hb tb))
    | inr i ↦ r.order a b ha hb (omega (arith, i, ta)) (still b hb tb)
  ];
  top = λ a ha ta. elim (others a) [
    | inl q ↦ subst (λ (a : ℕ). d a ≤ d k) (sym q) (omega arith)
    | inr i ↦ r.order a k ha hk (omega (arith, i, ta)) unset
  ];
  closed = λ f h. elim (others (at edges f).to) [
    | inl q ↦ inr (inl (q, h))
    | inr i ↦ elim (r.closed f h) [
      | inl u ↦ inl (omega (arith, i, u))
      | inr (inl p) ↦ let lt = p.1 in absurd (omega (arith, lt))
      | inr (inr m) ↦ inr (inr m)
    ]
  ];
  steps = λ l h. elim (r.steps l h) [
    | inl i ↦ inl i
    | inr (inl m) ↦ inr (inl m)
    | inr (inr s) ↦ inr (inr (record { known = s.known; from = s.from; to = s.to; exact = s.exact; before = before l h (at edges (v l)).to s.to s.before }))
  ];
  late = λ l h. elim (others l) [
    | inl q ↦ inl (subst (λ (l : ℕ). t' l < turn + 1) (sym q) (omega (arith, new)))
    | inr i ↦ elim (r.late l h) [ inl lt ↦ inl (omega (arith, lt, i)) | inr e ↦ inr (i ∙ e) ]
  ];
  turns = omega (arith, few);
}
  where
    still : (b : ℕ) → b < n → n ≤ t' b → n ≤ t b
    still b hb tb = elim (others b) [
      | inl q ↦ let x = subst (λ (b : ℕ). n ≤ t' b) q tb in absurd (omega (arith, x, new, few))
      | inr i ↦ omega (arith, i, tb)
    ]

    before : (l : ℕ) → l < n → (b : ℕ) → b < n → t b < t l → t' b < t' l
    before l h b hb lt = elim (r.late b hb) [
      | inr i ↦ elim (r.late l h) [ inl x ↦ let ts = r.turns in absurd (omega (arith, i, x, lt, ts)) | inr j ↦ absurd (omega (arith, i, j, lt)) ]
      | inl x ↦ elim (others b) [
        | inl q ↦ let u = subst (λ (b : ℕ). t b < turn) q x in absurd (omega (arith, u, unset, few))
        | inr i ↦ elim (others l) [
          | inl q ↦ subst (λ (l : ℕ). t' b < t' l) (sym q) (omega (arith, i, x, new))
          | inr j ↦ omega (arith, i, j, lt)
        ]
      ]
    ]

-- the assumption e, which leads to k, was looked at
pub relaxed : (n : ℕ) (edges : List Assumption) (y : ℕ → ℕ) (t : ℕ → ℕ) (ds vs ds' vs' : List ℕ) (turn target limit k e : ℕ) → AreMet n edges y
    → IsRunning n edges y (of ds) (of vs) t turn target limit k (e + 1) → t k < n → e < length edges → (at edges e).to ≡ k
    → IsRelaxed y ds vs ds' vs' (at edges e) e → IsRunning n edges y (of ds') (of vs') t turn target limit k e
relaxed n edges y t ds vs ds' vs' turn target limit k e met r settled he to (inl same) =
    subst (λ ds'. IsRunning n edges y (of ds') (of vs') t turn target limit k e) (sym same.0)
    (subst (λ vs'. IsRunning n edges y (of ds) (of vs') t turn target limit k e) (sym same.1.0)
    (skip n edges y (of ds) (of vs) t turn target limit k (e + 1) e r (λ f le lt to. inl (subst (λ (f : ℕ). Meets (raised y (of ds)) (at edges f)) (only f le lt) same.1.1))))
  where
    only : (f : ℕ) → e ≤ f → f < e + 1 → e ≡ f
    only f le lt = omega (arith, le, lt)
relaxed n edges y t ds vs ds' vs' turn target limit k e met r settled he to (inr low) =
    lower_at n edges y (of ds) (of vs) t (of ds') (of vs') turn target limit (at edges e).from k e met r (subst (λ (k : ℕ). k < n) to (met e he).1.0) settled he refl to
    (record { others = low.others; less = low.less; via = low.via; exact = subst (λ (k : ℕ). raised y (of ds') (at edges e).from ≡ ((at edges e).bound +ℤ raised y (of ds) k)) to low.exact })

-- those between the last before e that is listed for k, and e, are held or lead elsewhere
pub passed : (n : ℕ) (edges : List Assumption) (y d v t : ℕ → ℕ) (turn target limit k e h : ℕ) → IsRunning n edges y d v t turn target limit k e
    → IsLast (λ a. a.to) edges k e h → IsRunning n edges y d v t turn target limit k h
passed n edges y d v t turn target limit k e h r last = skip n edges y d v t turn target limit k e h r (λ f le lt to. inr (last.others f le lt to))

abbrev pub marked : ℕ → ℕ → ℕ
marked n t = if nat_lt t n then 0 else 1

pub marked_set : (n t : ℕ) → t < n → marked n t ≡ 0
marked_set n t h = grind (arith, nat_tests)

pub marked_unset : (n t : ℕ) → n ≤ t → marked n t ≡ 1
marked_unset n t h = grind (arith, nat_tests)

pub unset_all : (n : ℕ) (ts : List ℕ) → unset n ts ≤ length ts
unset_all n [] = omega arith
unset_all n (t ∷ ts) = let a = unset_all n ts in let b : marked n t ≤ 1 = grind (arith, nat_tests) in omega (arith, a, b)

unset_same : (n : ℕ) (ts us : List ℕ) → length us ≡ length ts → ((l : ℕ) → of us l ≡ of ts l) → unset n us ≡ unset n ts
unset_same n [] [] long same = refl
unset_same n [] (u ∷ us) long same = absurd (omega (arith, long))
unset_same n (t ∷ ts) [] long same = absurd (omega (arith, long))
unset_same n (t ∷ ts) (u ∷ us) long same = let h : u ≡ t = same 0 in
    let i = unset_same n ts us (omega (arith, long)) (λ l. same (suc l)) in let j : marked n u ≡ marked n t = ap (marked n) h in omega (arith, i, j)

-- settling one makes one less unsettled
pub unset_less : (n : ℕ) (ts us : List ℕ) (k : ℕ) → length us ≡ length ts → k < length ts → n ≤ of ts k → of us k < n → ((l : ℕ) → (l ≡ k) ⊎ (of us l ≡ of ts l))
    → unset n us + 1 ≡ unset n ts
unset_less n [] us k long h was is same = absurd (omega arith)
unset_less n (t ∷ ts) [] k long h was is same = absurd (omega (arith, long))
unset_less n (t ∷ ts) (u ∷ us) zero long h was is same =
    let i = unset_same n ts us (omega (arith, long)) (λ l. elim (same (suc l)) [ inl q ↦ absurd (omega (arith, q)) | inr e ↦ e ]) in
    let a = marked_set n u is in let b = marked_unset n t was in omega (arith, i, a, b)
unset_less n (t ∷ ts) (u ∷ us) (suc k) long h was is same =
    let i = unset_less n ts us k (omega (arith, long)) (omega arith) was is (λ l. elim (same (suc l)) [ inl q ↦ inl (omega (arith, q)) | inr e ↦ inr e ]) in
    let e : u ≡ t = elim (same 0) [ inl q ↦ absurd (omega (arith, q)) | inr e ↦ e ] in
    let j : marked n u ≡ marked n t = ap (marked n) e in omega (arith, i, j)

-- the beginning of a search
pub begun : (n : ℕ) (edges : List Assumption) (y d v t : ℕ → ℕ) (target limit : ℕ) → AreMet n edges y → d target ≡ 0 → ((l : ℕ) → l < n → t l ≡ n)
    → ((l : ℕ) → l < n → (l ≡ target) ⊎ (d l ≡ limit)) → IsRunning n edges y d v t 0 target limit target 0
begun n edges y d v t target limit met here turns far = record {
  here = here;
  most = λ l h. elim (far l h) [ inl q ↦ subst (λ (l : ℕ). d l ≤ limit) (sym q) (omega (arith, here)) | inr e ↦ omega (arith, e) ];
  order = λ a b ha hb ta tb. let e = turns a ha in absurd (omega (arith, e, ta));
  top = λ a ha ta. let e = turns a ha in absurd (omega (arith, e, ta));
  closed = λ f h. let e = turns (at edges f).to (met f h).1.0 in inl (omega (arith, e));
  steps = λ l h. elim (far l h) [ inl q ↦ inl q | inr e ↦ inr (inl (omega (arith, e))) ];
  late = λ l h. inr (turns l h);
  turns = omega arith;
}

pub room_kept : (y : ℕ → ℕ) (ds vs ds' vs' : List ℕ) (edge : Assumption) (e most l : ℕ) → IsRelaxed y ds vs ds' vs' edge e → of ds l ≤ most → of ds' l ≤ most
room_kept y ds vs ds' vs' edge e most l (inl same) h = subst (λ ds'. of ds' l ≤ most) (sym same.0) h
room_kept y ds vs ds' vs' edge e most l (inr low) h = elim (low.others l) [
  | inl q ↦ let s = subst (λ (l : ℕ). of ds' l < of ds l) (sym q) low.less in omega (arith, s, h)
  | inr s ↦ let i = s.0 in omega (arith, i, h)
]

pub unset_some : (n : ℕ) (ts : List ℕ) (k : ℕ) → k < length ts → n ≤ of ts k → 1 ≤ unset n ts
unset_some n [] k h was = absurd (omega arith)
unset_some n (t ∷ ts) zero h was = let a = marked_unset n t was in omega (arith, a)
unset_some n (t ∷ ts) (suc k) h was = let a = unset_some n ts k (omega arith) was in omega (arith, a)

-- the end of the assumption is not lowered
pub end_same : (n : ℕ) (edges : List Assumption) (y : ℕ → ℕ) (ds vs ds' vs' : List ℕ) (e k : ℕ) → AreMet n edges y → e < length edges → (at edges e).to ≡ k
    → IsRelaxed y ds vs ds' vs' (at edges e) e → of ds' k ≡ of ds k
end_same n edges y ds vs ds' vs' e k met he to (inl same) = ap (λ ds. of ds k) same.0
end_same n edges y ds vs ds' vs' e k met he to (inr low) = elim (low.others k) [
  | inl q ↦
      let f : (at edges e).from ≡ (at edges e).to = sym q ∙ sym to in
      let yf = ap y f in
      let df = ap (of ds) f in
      let m = (met e he).1.1.0 in
      let x = low.exact in
      let s = low.less in absurd (omega (arith, ints, m, x, s, yf, df))
  | inr s ↦ s.0
]
