-- What the words of `sim` ask for, and that each command with one file has one limit.
use Rattle.std.proofs.Common.{◌≡◌, ℕ, suc, ◌-◌, ◌<◌, ◌≤◌, Bool, true, false, List, [], ◌∷◌, ◌++◌, length, get_or, take, map, append_assoc, refl, ap, ◌∙◌, sym, subst, arith, if◌then◌else◌, Option, Some, None, codes, String, string_bytes}
use Rattle.std.specs.Prelude.{nat_le, ◌&&◌}
use Rattle.std.specs.Option.{option_map}
use Rattle.std.specs.Str.{bytes_eq}
use Rattle.std.specs.Str.Parse.{digits_value}
use Rattle.std.specs.declared.alloc.Global.{Global}
use Rattle.std.proofs.lemmas.List.{length-map}
use Rattle.rl_time.specs.declared.time.Time.{Time}
use Rattle.rl_flow.specs.Words.{times_of, names_order, order_word, texts_of, is_cycles_word, is_name_word, is_number_word}
use Rattle.rl_flow.specs.Task.{Task, Compile, Eval, Synth, Simplify, Tabulate, Sim, SimInOrder, Check, alone, in_order, timed_task, sim_task, eval_task, tabulate_task, task_of}
use Rattle.rl_flow.specs.Asked.{limits}

pub timed_is : (cycles : ℕ) (words : List (String Global)) (times : Option (List Time)) (order : Option ℕ) → names_order (texts_of words) ≡ true →
    times ≡ times_of (take (length words - 2) (texts_of words)) → order ≡ order_word (texts_of words) → in_order cycles times order ≡ timed_task cycles (texts_of words)
timed_is cycles words times order on t o =
    let long : length (texts_of words) ≡ length words = length-map words string_bytes in
    ap (λ z. in_order cycles z order) t ∙ (ap (λ z. in_order cycles (times_of (take (length words - 2) (texts_of words))) z) o
    ∙ (ap (λ n. in_order cycles (times_of (take (n - 2) (texts_of words))) (order_word (texts_of words))) (sym long)
    ∙ ap (λ b. if b then in_order cycles (times_of (take (length (texts_of words) - 2) (texts_of words))) (order_word (texts_of words)) else option_map (Sim cycles) (times_of (texts_of words))) (sym on)))

-- ---- one limit

abbrev HasOneLimit : Option Task → Type 0
HasOneLimit o = (t : Task) → o ≡ Some t → length (limits t) ≡ 1

one_none : HasOneLimit None
one_none t e = absurd (cc)

one_some : (s : Task) → length (limits s) ≡ 1 → HasOneLimit (Some s)
one_some s h t e = let same : s ≡ t = cc in subst (λ z. length (limits z) ≡ 1) same h

one_if : (b : Bool) (x y : Option Task) → HasOneLimit x → HasOneLimit y → HasOneLimit (if b then x else y)
one_if true x y h g = h
one_if false x y h g = g

one_map : {A : Type 0} (f : A → Task) → ((a : A) → length (limits (f a)) ≡ 1) → (o : Option A) → HasOneLimit (option_map f o)
one_map f h None = one_none
one_map f h (Some a) = one_some (f a) (h a)

one_alone : (task : Task) → length (limits task) ≡ 1 → (words : List (List ℕ)) → HasOneLimit (alone task words)
one_alone task h [] = one_some task h
one_alone task h (w ∷ words) = one_none

one_in_order : (cycles : ℕ) (times : Option (List Time)) (order : Option ℕ) → HasOneLimit (in_order cycles times order)
one_in_order cycles None order = one_none
one_in_order cycles (Some times) None = one_none
one_in_order cycles (Some times) (Some order) = one_some (SimInOrder cycles times order) refl

one_tabulate : (words : List (List ℕ)) → HasOneLimit (tabulate_task words)
one_tabulate [] = one_none
one_tabulate (a ∷ []) = one_none
one_tabulate (name ∷ window ∷ []) =
    one_if (is_name_word name && is_number_word 1000000 window) (Some (Tabulate name (digits_value 10 window))) None (one_some (Tabulate name (digits_value 10 window)) refl) one_none
one_tabulate (a ∷ b ∷ c ∷ words) = one_none

one_sim : (words : List (List ℕ)) → HasOneLimit (sim_task words)
one_sim [] = one_none
one_sim (cycles ∷ words) =
    let n = digits_value 10 cycles in
    one_if (is_cycles_word cycles) (timed_task n words) None
    (one_if (names_order words) (in_order n (times_of (take (length words - 2) words)) (order_word words)) (option_map (Sim n) (times_of words))
    (one_in_order n (times_of (take (length words - 2) words)) (order_word words)) (one_map (Sim n) (λ a. refl) (times_of words))) one_none

pub one_limit : (command : List ℕ) (words : List (List ℕ)) → HasOneLimit (task_of command words)
one_limit command words =
    one_if (bytes_eq command (codes "compile")) (alone Compile words) _ (one_alone Compile refl words)
    (one_if (bytes_eq command (codes "eval")) (eval_task words) _ (one_map Eval (λ a. refl) (times_of words))
    (one_if (bytes_eq command (codes "synth")) (alone Synth words) _ (one_alone Synth refl words)
    (one_if (bytes_eq command (codes "simplify")) (alone Simplify words) _ (one_alone Simplify refl words)
    (one_if (bytes_eq command (codes "tabulate")) (tabulate_task words) _ (one_tabulate words)
    (one_if (bytes_eq command (codes "sim")) (sim_task words) None (one_sim words) one_none)))))

pub length_one : (words : List (String Global)) → 1 ≤ length words → 1 ≡ length (take 1 words)
length_one [] h = absurd (omega arith)
length_one (w ∷ words) h = refl

-- ---- a text that grew three times

pub three_more : (old one two three a d n : List ℕ) → one ≡ old ++ a → two ≡ one ++ d → three ≡ two ++ n → three ≡ old ++ (a ++ (d ++ n))
three_more old one two three a d n e f g = g ∙ (ap (λ z. z ++ n) (f ∙ ap (λ z. z ++ d) e) ∙ (append_assoc (old ++ a) d n ∙ append_assoc old a (d ++ n)))
