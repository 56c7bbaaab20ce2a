-- What a loop of puts has added so far.
use Rattle.std.proofs.Common.{◌≡◌, ℕ, ◌+◌, ◌-◌, List, [], ◌++◌, length, take, drop, Option, Some, None, refl, sym, ◌∙◌, ap, arith, append_assoc}
use Rattle.std.proofs.lemmas.Grind.{common_steps}
use Rattle.std.proofs.Math.Seq.{take-add}
use Rattle.std.specs.Option.{option_map}
use Rattle.rl_io.specs.Files.{Adds}

pub adds_none : (told : Option (List ℕ)) → Adds told told []
adds_none None = refl
adds_none (Some bytes) = grind (arith, common_steps)

pub rest_of : (text : List ℕ) (done : ℕ) → take (length text - done) (drop done text) ≡ drop done text
rest_of text done = grind (arith, common_steps)

pub adds_more : (a b c : Option (List ℕ)) (text : List ℕ) (done n : ℕ) → Adds a b (take done text) → Adds b c (take n (drop done text)) → Adds a c (take (done + n) text)
adds_more None b c text done n e f = f ∙ ap (option_map (λ bytes. bytes ++ take n (drop done text))) e
adds_more (Some bytes) b c text done n e f =
    f ∙ ap (option_map (λ bytes. bytes ++ take n (drop done text))) e ∙ ap Some (append_assoc bytes (take done text) (take n (drop done text)) ∙ ap (λ t. bytes ++ t) (sym (take-add done n text)))
