-- The ports of a header, as the code borrows them.
use Rattle.std.proofs.Common.{◌≡◌, ℕ, ◌+◌, ◌-◌, ◌≤◌, Bool, true, false, cond, ◌&&◌, ◌||◌, List, [], ◌∷◌, length, map, drop, get_or, refl, sym, ap, ◌∙◌, arith, codes}
use denote.Bor.{Bor}
use Rattle.std.specs.List.{prefix_len, list_all, list_any}
use Rattle.std.specs.Str.{bytes_eq}
use Rattle.std.proofs.lemmas.List.{drop-map, length-map}
use Rattle.std.proofs.lemmas.List.Folds.{list_all-map}
use Rattle.verilog_text.specs.Judging.{is_input_port, is_output_port, inputs_in, are_ports, is_few, are_few}

abbrev pub all_now : List (Bor (List ℕ)) → List (List ℕ)
all_now ps = map (λ p. p.now) ps

prefix_map : (test : List ℕ → Bool) (ps : List (Bor (List ℕ))) → prefix_len (λ p. test p.now) ps ≡ prefix_len test (all_now ps)
prefix_map test [] = refl
prefix_map test (p ∷ ps) = ap (λ (n : ℕ). cond (test p.now) (1 + n) 0) (prefix_map test ps)

pub any_map : (test : List ℕ → Bool) (ps : List (Bor (List ℕ))) → list_any (λ p. test p.now) ps ≡ list_any test (all_now ps)
any_map test [] = refl
any_map test (p ∷ ps) = ap (λ (b : Bool). test p.now || b) (any_map test ps)

abbrev pub outputs_behind : List (Bor (List ℕ)) → ℕ → Bool
outputs_behind ps n = list_all (λ p. is_output_port p.now) (drop n ps)

pub outputs_map : (ps : List (Bor (List ℕ))) (n : ℕ) → n ≡ prefix_len (λ p. is_input_port p.now) ps → outputs_behind ps n ≡ list_all is_output_port (drop (inputs_in (all_now ps)) (all_now ps))
outputs_map ps n e =
    (λ i. list_all (λ p. is_output_port p.now) (drop ((e ∙ prefix_map is_input_port ps) i) ps))
    ∙ sym (list_all-map is_output_port (λ p. p.now) (drop (inputs_in (all_now ps)) ps))
    ∙ ap (list_all is_output_port) (sym (drop-map (λ p. p.now) (inputs_in (all_now ps)) ps))

pub few_map : (ps : List (Bor (List ℕ))) (n : ℕ) → n ≡ prefix_len (λ p. is_input_port p.now) ps →
    (is_few n && is_few (length ps - n)) ≡ (is_few (inputs_in (all_now ps)) && is_few (length (all_now ps) - inputs_in (all_now ps)))
few_map ps n e =
    let l = sym (length-map ps (λ (p : Bor (List ℕ)). p.now)) in
    λ i. is_few ((e ∙ prefix_map is_input_port ps) i) && is_few (l i - (e ∙ prefix_map is_input_port ps) i)

module _ (ps qs : List (Bor (List ℕ))) (rest : qs ≡ drop 2 ps) (n : ℕ) (count : n ≡ prefix_len (λ p. is_input_port p.now) qs) where
  rest_now : all_now qs ≡ drop 2 (all_now ps)
  rest_now = ap all_now rest ∙ sym (drop-map (λ p. p.now) 2 ps)

  few_is_of : (is_few n && is_few (length qs - n)) ≡ are_few (all_now ps)
  few_is_of = few_map qs n count ∙ ap (λ (z : List (List ℕ)). is_few (inputs_in z) && is_few (length z - inputs_in z)) rest_now

  pub few_then : (a b : Bool) → a ≡ is_few n → a ≡ true → b ≡ is_few (length qs - n) → b ≡ are_few (all_now ps)
  few_then a b e t f = ap (λ (z : Bool). z && b) (sym t ∙ e) ∙ ap (λ (z : Bool). is_few n && z) f ∙ few_is_of

  pub few_else : (a : Bool) → a ≡ is_few n → a ≡ false → a ≡ are_few (all_now ps)
  few_else a e t = t ∙ ap (λ (z : Bool). z && is_few (length qs - n)) (sym t ∙ e) ∙ few_is_of

  ports_at : (d e : Bor (List ℕ)) → 2 ≤ length ps → ((bytes_eq (get_or ps 0 d).now (codes "clk") && bytes_eq (get_or ps 1 e).now (codes "rst")) && list_all is_output_port (drop (inputs_in (drop 2 (all_now ps))) (drop 2 (all_now ps)))) ≡ are_ports (all_now ps)
  ports_at d e = at ps where
    at : (ps : List (Bor (List ℕ))) → 2 ≤ length ps → ((bytes_eq (get_or ps 0 d).now (codes "clk") && bytes_eq (get_or ps 1 e).now (codes "rst")) && list_all is_output_port (drop (inputs_in (drop 2 (all_now ps))) (drop 2 (all_now ps)))) ≡ are_ports (all_now ps)
    at [] h = absurd (omega arith)
    at (x ∷ []) h = absurd (omega arith)
    at (x ∷ y ∷ qs) h = refl

  ports_is : (d e : Bor (List ℕ)) → 2 ≤ length ps → ((bytes_eq (get_or ps 0 d).now (codes "clk") && bytes_eq (get_or ps 1 e).now (codes "rst")) && outputs_behind qs n) ≡ are_ports (all_now ps)
  ports_is d e h =
      ap (λ (z : Bool). (bytes_eq (get_or ps 0 d).now (codes "clk") && bytes_eq (get_or ps 1 e).now (codes "rst")) && z)
      (outputs_map qs n count ∙ ap (λ (z : List (List ℕ)). list_all is_output_port (drop (inputs_in z) z)) rest_now)
      ∙ ports_at d e h

  pub ports_then : (d e : Bor (List ℕ)) (a b : Bool) → 2 ≤ length ps → a ≡ (bytes_eq (get_or ps 0 d).now (codes "clk") && bytes_eq (get_or ps 1 e).now (codes "rst")) → a ≡ true → b ≡ outputs_behind qs n → b ≡ are_ports (all_now ps)
  ports_then d e a b h f t g = ap (λ (z : Bool). z && b) (sym t ∙ f) ∙ ap (λ (z : Bool). (bytes_eq (get_or ps 0 d).now (codes "clk") && bytes_eq (get_or ps 1 e).now (codes "rst")) && z) g ∙ ports_is d e h

  pub ports_else : (d e : Bor (List ℕ)) (a : Bool) → 2 ≤ length ps → a ≡ (bytes_eq (get_or ps 0 d).now (codes "clk") && bytes_eq (get_or ps 1 e).now (codes "rst")) → a ≡ false → a ≡ are_ports (all_now ps)
  ports_else d e a h f t = t ∙ ap (λ (z : Bool). z && outputs_behind qs n) (sym t ∙ f) ∙ ports_is d e h
