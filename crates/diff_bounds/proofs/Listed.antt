-- The assumptions that are listed for an input that each names, as one more is added, or the last is taken away.
use Rattle.std.proofs.Common.{◌≡◌, ℕ, ◌<◌, ◌≤◌, ◌+◌, subst, arith, sym, ap, ◌∙◌, List, [], ◌∷◌, ◌++◌, inl, inr, ◌⊎◌, length, get_or, take}
use Rattle.std.proofs.lemmas.List.{get_or_append_left, take-append-le}
use Rattle.std.proofs.Math.Seq.{get_or-append_seam, take-append_seam}
use Rattle.refutation.specs.declared.assumption.Assumption.{Assumption}
use Rattle.refutation.specs.Path.{at}
use Rattle.diff_bounds.specs.declared.ends.ByInput.{ByInput}
use Rattle.diff_bounds.specs.Bounds.{Implies}
use Rattle.diff_bounds.specs.Search.{IsHeld, IsLast, IsByInput}
use Rattle.diff_bounds.proofs.Least.{at_more, at_new, length_more}
use Rattle.diff_bounds.proofs.Steps.{length_last}

pub none_listed : (end : Assumption → ℕ) (n : ℕ) (list : ByInput) → length list.lasts.items ≡ n → ((k : ℕ) → get_or list.lasts.items k 0 ≡ 0) → length list.earlier.items ≡ 0 → IsByInput end n [] list
none_listed end n list long none empty = record {
  inputs = long;
  numbers = empty;
  lasts = λ k h. let z = none k in record {
    before = omega (arith, z);
    leads = λ f q. absurd (omega (arith, q, z));
    others = λ f le lt to. absurd (omega (arith, lt));
  };
  earlier = λ e h. absurd (omega (arith, h));
}

module _ (end : Assumption → ℕ) (edges : List Assumption) (a : Assumption) where
  abbrev more : List Assumption
  more = edges ++ a ∷ []

  held_more : (f : ℕ) → f < length edges → IsHeld edges f → IsHeld more f
  held_more f lt held =
      subst (λ b. Implies (take f more) b.from b.to b.bound) (sym (at_more edges a f lt))
      (subst (λ es. Implies es (at edges f).from (at edges f).to (at edges f).bound) (sym (take-append-le f edges (a ∷ []) (omega (arith, lt)))) held)

  held_fewer : (f : ℕ) → f < length edges → IsHeld more f → IsHeld edges f
  held_fewer f lt held =
      subst (λ es. Implies es (at edges f).from (at edges f).to (at edges f).bound) (take-append-le f edges (a ∷ []) (omega (arith, lt)))
      (subst (λ b. Implies (take f more) b.from b.to b.bound) (at_more edges a f lt) held)

  held_new : (f : ℕ) → f ≡ length edges → Implies edges a.from a.to a.bound → IsHeld more f
  held_new f q all =
      subst (λ (f : ℕ). IsHeld more f) (sym q)
      (subst (λ b. Implies (take (length edges) more) b.from b.to b.bound) (sym (at_new edges a))
      (subst (λ es. Implies es a.from a.to a.bound) (sym (take-append_seam edges (a ∷ []))) all))

  last_more : (k e h : ℕ) → e ≤ length edges → IsLast end edges k e h → IsLast end more k e h
  last_more k e h within last = record {
    before = last.before;
    leads = λ f q. subst (λ b. end b ≡ k) (sym (at_more edges a f (let le = last.before in omega (arith, q, le, within)))) (last.leads f q);
    others = λ f le lt to. held_more f (omega (arith, lt, within)) (last.others f le lt (subst (λ b. end b ≡ k) (at_more edges a f (omega (arith, lt, within))) to));
  }

  last_fewer : (k e h : ℕ) → e ≤ length edges → IsLast end more k e h → IsLast end edges k e h
  last_fewer k e h within last = record {
    before = last.before;
    leads = λ f q. subst (λ b. end b ≡ k) (at_more edges a f (let le = last.before in omega (arith, q, le, within))) (last.leads f q);
    others = λ f le lt to. held_fewer f (omega (arith, lt, within)) (last.others f le lt (subst (λ b. end b ≡ k) (sym (at_more edges a f (omega (arith, lt, within)))) to));
  }

  new_leads : (k f : ℕ) → f ≡ length edges → end (at more f) ≡ k → end a ≡ k
  new_leads k f q to = subst (λ b. end b ≡ k) (at_new edges a) (subst (λ (f : ℕ). end (at more f) ≡ k) q to)

  leads_new : (k f : ℕ) → f ≡ length edges → end a ≡ k → end (at more f) ≡ k
  leads_new k f q to = subst (λ (f : ℕ). end (at more f) ≡ k) (sym q) (subst (λ b. end b ≡ k) (sym (at_new edges a)) to)

  last_new : (k h : ℕ) → k ≡ end a → h ≡ length edges + 1 → IsLast end more k (length more) h
  last_new k h is q = let long = length_more edges a in record {
    before = omega (arith, long, q);
    leads = λ f r. leads_new k f (omega (arith, r, q)) (sym is);
    others = λ f le lt to. absurd (omega (arith, le, lt, long, q));
  }

  apart : (f : ℕ) → f < length edges + 1 → (f < length edges) ⊎ (f ≡ length edges)
  apart f h = grind (arith, h)

  last_other : (k h : ℕ) → (end a ≡ k → ⊥) → IsLast end edges k (length edges) h → IsLast end more k (length more) h
  last_other k h other last = let long = length_more edges a in let m = last_more k (length edges) h (omega arith) last in record {
    before = let le = last.before in omega (arith, le, long);
    leads = m.leads;
    others = λ f le lt to. elim (apart f (omega (arith, lt, long))) [ inl less ↦ m.others f le less to | inr q ↦ absurd (other (new_leads k f q to)) ];
  }

  last_held : (k h : ℕ) → Implies edges a.from a.to a.bound → IsLast end edges k (length edges) h → IsLast end more k (length more) h
  last_held k h all last = let long = length_more edges a in let m = last_more k (length edges) h (omega arith) last in record {
    before = let le = last.before in omega (arith, le, long);
    leads = m.leads;
    others = λ f le lt to. elim (apart f (omega (arith, lt, long))) [ inl less ↦ m.others f le less to | inr q ↦ held_new f q all ];
  }

  last_before : (k h : ℕ) → (end a ≡ k → ⊥) → IsLast end more k (length more) h → IsLast end edges k (length edges) h
  last_before k h other last = let long = length_more edges a in last_fewer k (length edges) h (omega arith) (record {
    before = elim (within h (let le = last.before in omega (arith, le, long))) [ inl le ↦ le | inr q ↦ absurd (other (new_leads k (length edges) (omega arith) (last.leads (length edges) (sym q)))) ];
    leads = last.leads;
    others = λ f le lt to. last.others f le (omega (arith, lt, long)) to;
  })
    where
      within : (h : ℕ) → h ≤ length edges + 1 → (h ≤ length edges) ⊎ (h ≡ length edges + 1)
      within h le = grind (arith, le)

  same_or : (k : ℕ) → (k ≡ end a) ⊎ (end a ≡ k → ⊥)
  same_or k = grind arith

  -- the last assumption's own number is put at the end
  module _ (n : ℕ) (old new : ByInput) (s : IsByInput end n edges old) (to : end a < n) (put : new.earlier.items ≡ old.earlier.items ++ get_or old.lasts.items (end a) 0 ∷ []) where
    numbers_more : length new.earlier.items ≡ length more
    numbers_more = ap length put ∙ (let l = length_more edges a in let m = s.numbers in let n = length_last old.earlier.items (get_or old.lasts.items (end a) 0) in omega (arith, l, m, n))

    earlier_before : (e : ℕ) → e < length edges → IsLast end more (end (at more e)) e (get_or new.earlier.items e 0)
    earlier_before e less =
        subst (λ (b : Assumption). IsLast end more (end b) e (get_or new.earlier.items e 0)) (sym (at_more edges a e less))
        (subst (λ (h : ℕ). IsLast end more (end (at edges e)) e h) (sym (ap (λ xs. get_or xs e 0) put ∙ get_or_append_left old.earlier.items (get_or old.lasts.items (end a) 0 ∷ []) 0 e (let m = s.numbers in omega (arith, m, less))))
        (last_more (end (at edges e)) e (get_or old.earlier.items e 0) (omega (arith, less)) (s.earlier e less)))

    earlier_seam : get_or new.earlier.items (length edges) 0 ≡ get_or old.lasts.items (end a) 0
    earlier_seam = ap (λ xs. get_or xs (length edges) 0) put ∙ subst (λ (m : ℕ). get_or (old.earlier.items ++ get_or old.lasts.items (end a) 0 ∷ []) m 0 ≡ get_or old.lasts.items (end a) 0) s.numbers
        (get_or-append_seam old.earlier.items (get_or old.lasts.items (end a) 0) [] 0)

    earlier_last : (e : ℕ) → e ≡ length edges → IsLast end more (end (at more e)) e (get_or new.earlier.items e 0)
    earlier_last e q =
        subst (λ (e : ℕ). IsLast end more (end (at more e)) e (get_or new.earlier.items e 0)) (sym q)
        (subst (λ (b : Assumption). IsLast end more (end b) (length edges) (get_or new.earlier.items (length edges) 0)) (sym (at_new edges a))
        (subst (λ (h : ℕ). IsLast end more (end a) (length edges) h) (sym earlier_seam)
        (last_more (end a) (length edges) (get_or old.lasts.items (end a) 0) (omega arith) (s.lasts (end a) to))))

    earlier_more : (e : ℕ) → e < length more → IsLast end more (end (at more e)) e (get_or new.earlier.items e 0)
    earlier_more e h = elim (apart e (let l = length_more edges a in omega (arith, h, l))) [ inl less ↦ earlier_before e less | inr q ↦ earlier_last e q ]

    pub more_listed : length new.lasts.items ≡ length old.lasts.items → get_or new.lasts.items (end a) 0 ≡ length edges + 1
        → ((l : ℕ) → (l ≡ end a) ⊎ (get_or new.lasts.items l 0 ≡ get_or old.lasts.items l 0)) → IsByInput end n more new
    more_listed long here others = record {
      inputs = long ∙ s.inputs;
      numbers = numbers_more;
      lasts = λ k h. elim (same_or k) [
        | inl q ↦ last_new k (get_or new.lasts.items k 0) q (ap (λ (k : ℕ). get_or new.lasts.items k 0) q ∙ here)
        | inr away ↦ elim (others k) [
          | inl q ↦ absurd (away (sym q))
          | inr i ↦ last_other k (get_or new.lasts.items k 0) away (subst (λ (h : ℕ). IsLast end edges k (length edges) h) (sym i) (s.lasts k h))
        ]
      ];
      earlier = earlier_more;
    }

    -- one that the others imply need not be listed
    pub held_listed : new.lasts.items ≡ old.lasts.items → Implies edges a.from a.to a.bound → IsByInput end n more new
    held_listed same all = record {
      inputs = ap length same ∙ s.inputs;
      numbers = numbers_more;
      lasts = λ k h. subst (λ (h : ℕ). IsLast end more k (length more) h) (sym (ap (λ xs. get_or xs k 0) same)) (last_held k (get_or old.lasts.items k 0) all (s.lasts k h));
      earlier = earlier_more;
    }

  pub fewer_listed : (n h : ℕ) (old new : ByInput) → IsByInput end n more old → length new.lasts.items ≡ length old.lasts.items
      → get_or new.lasts.items (end a) 0 ≡ h → ((l : ℕ) → (l ≡ end a) ⊎ (get_or new.lasts.items l 0 ≡ get_or old.lasts.items l 0))
      → old.earlier.items ≡ new.earlier.items ++ h ∷ [] → IsByInput end n edges new
  fewer_listed n h old new s long here others put = record {
    inputs = long ∙ s.inputs;
    numbers = numbers;
    lasts = λ k hk. elim (same_or k) [
      | inl q ↦ subst (λ (k : ℕ). IsLast end edges k (length edges) (get_or new.lasts.items k 0)) (sym q)
          (subst (λ (h : ℕ). IsLast end edges (end a) (length edges) h) (sym here) rest)
      | inr away ↦ elim (others k) [
        | inl q ↦ absurd (away (sym q))
        | inr i ↦ last_before k (get_or new.lasts.items k 0) away (subst (λ (h : ℕ). IsLast end more k (length more) h) (sym i) (s.lasts k hk))
      ]
    ];
    earlier = λ e he.
        last_fewer (end (at edges e)) e (get_or new.earlier.items e 0) (omega (arith, he))
        (subst (λ (h : ℕ). IsLast end more (end (at edges e)) e h) (ap (λ xs. get_or xs e 0) put ∙ get_or_append_left new.earlier.items (h ∷ []) 0 e (let m = numbers in omega (arith, m, he)))
        (subst (λ (b : Assumption). IsLast end more (end b) e (get_or old.earlier.items e 0)) (at_more edges a e he)
        (s.earlier e (let l = length_more edges a in omega (arith, l, he)))));
  }
    where
      numbers : length new.earlier.items ≡ length edges
      numbers = let l = length_more edges a in let m = s.numbers in let p = ap length put in let n = length_last new.earlier.items h in omega (arith, l, m, n, p)

      seam : get_or old.earlier.items (length edges) 0 ≡ h
      seam = ap (λ xs. get_or xs (length edges) 0) put ∙ subst (λ (m : ℕ). get_or (new.earlier.items ++ h ∷ []) m 0 ≡ h) numbers (get_or-append_seam new.earlier.items h [] 0)

      rest : IsLast end edges (end a) (length edges) h
      rest = last_fewer (end a) (length edges) h (omega arith)
          (subst (λ (h : ℕ). IsLast end more (end a) (length edges) h) seam
          (subst (λ (b : Assumption). IsLast end more (end b) (length edges) (get_or old.earlier.items (length edges) 0)) (at_new edges a)
          (s.earlier (length edges) (let l = length_more edges a in omega (arith, l)))))
