-- The inputs that are reached and not settled, as one is reached or settled.
use Rattle.std.proofs.Common.{◌≡◌, ℕ, suc, ◌<◌, ◌≤◌, ◌-◌, subst, arith, sym, ap, ◌∙◌, List, [], ◌∷◌, inl, inr, ◌⊎◌, length, get_or}
use Rattle.std.proofs.lemmas.Bool.Decides.{nat_tests}
use Rattle.refutation.specs.declared.assumption.Assumption.{Assumption}
use Rattle.diff_bounds.specs.Search.{of, unset, IsOpen, IsOpened, IsRelaxed}
use Rattle.diff_bounds.proofs.Running.{unset_all, unset_less, unset_some, marked}

pub under : (a b : ℕ) → (a < b) ⊎ (b ≤ a)
under a b = grind arith

one_lowers : (n t u : ℕ) → u ≤ t → marked n u ≤ marked n t
one_lowers n t u h = grind (arith, nat_tests, h)

-- where distances fall, no more are unset
pub unset_lowers : (n : ℕ) (ts us : List ℕ) → length us ≡ length ts → ((l : ℕ) → of us l ≤ of ts l) → unset n us ≤ unset n ts
unset_lowers n [] [] long low = omega arith
unset_lowers n [] (u ∷ us) long low = absurd (omega (arith, long))
unset_lowers n (t ∷ ts) [] long low = absurd (omega (arith, long))
unset_lowers n (t ∷ ts) (u ∷ us) long low =
    let a = one_lowers n t u (low 0) in
    let b = unset_lowers n ts us (omega (arith, long)) (λ l. low (suc l)) in omega (arith, a, b)

-- nothing is reached yet
pub none_open : (n : ℕ) (ds : List ℕ) (t : ℕ → ℕ) (limit : ℕ) (xs : List ℕ) → length ds ≡ n → ((l : ℕ) → l < n → limit ≤ get_or ds l 0) → IsOpen n ds t limit xs 0
none_open n ds t limit xs long far = record {
  room = let a = unset_all limit ds in omega (arith, a, long);
  inside = λ i h. absurd (omega (arith, h));
  has = λ l h. inr (inl (far l h));
}

-- there is room for an input that is not reached
pub has_room : (n : ℕ) (ds : List ℕ) (t : ℕ → ℕ) (limit : ℕ) (xs : List ℕ) (count k : ℕ) → IsOpen n ds t limit xs count → length ds ≡ n → k < n → limit ≤ of ds k → count < n
has_room n ds t limit xs count k o long h far = let some = unset_some limit ds k (omega (arith, h, long)) far in let room = o.room in omega (arith, some, room)

-- only the distance of k fell, and k was opened if it is reached by that
pub opened : (n : ℕ) (ds ds' : List ℕ) (t : ℕ → ℕ) (limit : ℕ) (xs xs' : List ℕ) (count count' k : ℕ) → IsOpen n ds t limit xs count → k < n → length ds ≡ n → length ds' ≡ length ds
    → ((l : ℕ) → (l ≡ k) ⊎ (of ds' l ≡ of ds l)) → of ds' k ≤ of ds k → IsOpened (of ds k) (of ds' k) limit k count xs xs' count' → IsOpen n ds' t limit xs' count'
opened n ds ds' t limit xs xs' count count' k o hk long same others low (inl p) = record {
  room = let less = unset_less limit ds ds' k same (omega (arith, hk, long)) p.0 p.1.0 others in let room = o.room in let is = p.1.1.0 in omega (arith, less, room, is);
  inside = λ i h. elim (p.1.1.1.1 i) [
    | inl q ↦ let here = p.1.1.1.0 in let e = ap (λ (i : ℕ). get_or xs' i 0) q in omega (arith, e, here, hk)
    | inr e ↦ elim (under i count) [
      | inl lt ↦ let in_old = o.inside i lt in omega (arith, e, in_old)
      | inr le ↦ let is = p.1.1.0 in let q : i ≡ count = omega (arith, le, h, is) in let here = p.1.1.1.0 in let e' = ap (λ (i : ℕ). get_or xs' i 0) q in omega (arith, e', here, hk)
    ]
  ];
  has = λ l h. elim (o.has l h) [
    | inl s ↦ inl s
    | inr (inl far) ↦ elim (others l) [
      | inl q ↦ inr (inr (count, (let is = p.1.1.0 in omega (arith, is), p.1.1.1.0 ∙ sym q)))
      | inr e ↦ inr (inl (omega (arith, e, far)))
    ]
    | inr (inr w) ↦ inr (inr (w.0, (let is = p.1.1.0 in let lt = w.1.0 in omega (arith, is, lt), elim (p.1.1.1.1 w.0) [ inl q ↦ let lt = w.1.0 in absurd (omega (arith, q, lt)) | inr e ↦ e ∙ w.1.1 ])))
  ];
}
opened n ds ds' t limit xs xs' count count' k o hk long same others low (inr p) =
    subst (λ (xs : List ℕ). IsOpen n ds' t limit xs count') (sym p.1.1) (subst (λ (count : ℕ). IsOpen n ds' t limit xs count) (sym p.1.0) (record {
      room = let less = unset_lowers limit ds ds' same lowers in let room = o.room in omega (arith, less, room);
      inside = o.inside;
      has = λ l h. elim (o.has l h) [
        | inl s ↦ inl s
        | inr (inl far) ↦ elim (others l) [
          | inl q ↦ inr (inl (still l q far p.0))
          | inr e ↦ inr (inl (omega (arith, e, far)))
        ]
        | inr (inr w) ↦ inr (inr w)
      ];
    }))
  where
    lowers : (l : ℕ) → of ds' l ≤ of ds l
    lowers l = elim (others l) [ inl q ↦ subst (λ (l : ℕ). of ds' l ≤ of ds l) (sym q) low | inr e ↦ omega (arith, e) ]

    still : (l : ℕ) → l ≡ k → limit ≤ of ds l → (of ds k < limit) ⊎ (limit ≤ of ds' k) → limit ≤ of ds' l
    still l q far (inl lt) = let far_k = subst (λ (l : ℕ). limit ≤ of ds l) q far in absurd (omega (arith, far_k, lt))
    still l q far (inr le) = subst (λ (l : ℕ). limit ≤ of ds' l) (sym q) le

-- an edge was looked at, and its beginning opened if it is reached by that
pub visited : (n : ℕ) (y : ℕ → ℕ) (ds vs ds' vs' : List ℕ) (t : ℕ → ℕ) (limit : ℕ) (xs xs' : List ℕ) (count count' e : ℕ) (edge : Assumption) → IsOpen n ds t limit xs count → edge.from < n
    → length ds ≡ n → length ds' ≡ length ds → IsRelaxed y ds vs ds' vs' edge e → IsOpened (of ds edge.from) (of ds' edge.from) limit edge.from count xs xs' count' → IsOpen n ds' t limit xs' count'
visited n y ds vs ds' vs' t limit xs xs' count count' e edge o h long same (inl p) = opened n ds ds' t limit xs xs' count count' edge.from o h long same
    (λ l. inr (ap (λ ds. of ds l) p.0)) (let e = ap (λ ds. of ds edge.from) p.0 in omega (arith, e))
visited n y ds vs ds' vs' t limit xs xs' count count' e edge o h long same (inr p) = opened n ds ds' t limit xs xs' count count' edge.from o h long same
    (λ l. elim (p.others l) [ inl q ↦ inl q | inr s ↦ inr s.0 ]) (let less = p.less in omega (arith, less))

-- k, at a place of the list, is settled, and the last takes its place
pub closed : (n : ℕ) (ds : List ℕ) (t t' : ℕ → ℕ) (limit : ℕ) (xs xs' : List ℕ) (count place k : ℕ) → IsOpen n ds t limit xs count → place < count → get_or xs place 0 ≡ k
    → t' k < n → ((l : ℕ) → (l ≡ k) ⊎ (t' l ≡ t l))
    → get_or xs' place 0 ≡ get_or xs (count - 1) 0 → ((i : ℕ) → (i ≡ place) ⊎ (get_or xs' i 0 ≡ get_or xs i 0)) → IsOpen n ds t' limit xs' (count - 1)
closed n ds t t' limit xs xs' count place k o hp at_place set others moved same = record {
  room = let room = o.room in omega (arith, room);
  inside = λ i h. elim (same i) [
    | inl q ↦ let e = ap (λ (i : ℕ). get_or xs' i 0) q in let last = o.inside (count - 1) (omega (arith, hp)) in omega (arith, e, moved, last)
    | inr e ↦ let old = o.inside i (omega (arith, h)) in omega (arith, e, old)
  ];
  has = λ l h. elim (others l) [
    | inl q ↦ inl (subst (λ (l : ℕ). t' l < n) (sym q) set)
    | inr e ↦ elim (o.has l h) [
      | inl s ↦ inl (omega (arith, e, s))
      | inr (inl far) ↦ inr (inl far)
      | inr (inr w) ↦ elim (same w.0) [
        | inl q ↦ inl (subst (λ (l : ℕ). t' l < n) (sym at_place ∙ ap (λ (i : ℕ). get_or xs i 0) (sym q) ∙ w.1.1) set)
        | inr i ↦ elim (under w.0 (count - 1)) [
          | inl lt ↦ inr (inr (w.0, (lt, i ∙ w.1.1)))
          | inr le ↦ kept l w.0 w.1.0 le w.1.1 (under place (count - 1))
        ]
      ]
    ]
  ];
}
  where
    kept : (l j : ℕ) → j < count → count - 1 ≤ j → get_or xs j 0 ≡ l → (place < count - 1) ⊎ (count - 1 ≤ place)
        → (t' l < n) ⊎ ((limit ≤ get_or ds l 0) ⊎ ((i : ℕ) × ((i < count - 1) × (get_or xs' i 0 ≡ l))))
    kept l j lt le is (inl less) = inr (inr (place, (less, moved ∙ ap (λ (i : ℕ). get_or xs i 0) (let q : count - 1 ≡ j = omega (arith, lt, le) in q) ∙ is)))
    kept l j lt le is (inr more) = inl (subst (λ (l : ℕ). t' l < n) (sym at_place ∙ ap (λ (i : ℕ). get_or xs i 0) (let q : place ≡ j = omega (arith, lt, le, more, hp) in q) ∙ is) set)
