-- A number that is read as far as it matters.
use Rattle.std.proofs.Common.{◌≡◌, ℕ, ◌+◌, ◌*◌, ◌-◌, ◌≤◌, ◌<◌, List, [], ◌∷◌, length, drop, get_or, sym, ap, ◌∙◌, arith, inl, inr}
use Rattle.std.specs.Prelude.{min}
use Rattle.std.proofs.lemmas.Bool.{cases_lt}
use Rattle.std.proofs.lemmas.List.{drop_more}
use Rattle.rl_text.specs.Numbers.{number_from}

module _ (limit : ℕ) where
  past_limit : (ds : List ℕ) (n : ℕ) → limit ≤ n → limit ≤ number_from n ds
  past_limit [] n h = h
  past_limit (d ∷ ds) n h = past_limit ds (n * 10 + (d - 48)) (omega (arith, h))

  capped_start : (ds : List ℕ) (n : ℕ) → min (number_from (min n limit) ds) limit ≡ min (number_from n ds) limit
  capped_start ds n =
      elim (cases_lt n limit) [
        | inl lt ↦ let e : min n limit ≡ n = omega arith in ap (λ (m : ℕ). min (number_from m ds) limit) e
        | inr le ↦ let p = past_limit ds n le in let q = past_limit ds (min n limit) (omega arith) in omega (arith, p, q)
      ]

  pub step : (ds : List ℕ) (i n : ℕ) (d : ℕ) → i < length ds → min (number_from n (drop i ds)) limit ≡ min (number_from (min (n * 10 + (get_or ds i d - 48)) limit) (drop (i + 1) ds)) limit
  step ds i n d lt = ap (λ (x : List ℕ). min (number_from n x) limit) (drop_more ds i d lt) ∙ sym (capped_start (drop (i + 1) ds) (n * 10 + (get_or ds i d - 48)))
