-- The words of the printing of a network: those of its lines, each with a newline after it.
use Rattle.std.proofs.Common.{◌≡◌, ℕ, true, false, not, List, [], ◌∷◌, ◌++◌, map, refl, sym, ap, subst, ◌∙◌, append_assoc}
use Rattle.std.specs.Prelude.{codes, decimal, slice_index_or}
use Rattle.std.specs.List.{list_all, AllByRecursion}
use Rattle.std.proofs.lemmas.List.{append-nil}
use Rattle.std.proofs.lemmas.Bool.{and_parts, not-true}
use Rattle.rl_text.specs.Names.{is_name}
use Rattle.rl_text.specs.Lines.{Word}
use Rattle.rl_text.specs.Numbers.{IsConstant}
use Rattle.net_model.specs.Formula as f
use Rattle.net_model.specs.Formula.{Formula, Equation, Net}
use Rattle.net_model.specs.Rules.{is_reserved, is_let_name, names_of}
use Rattle.net_lang.specs.Grammar.{Expression, Never, Name, Min, Max, Lt, Inc, open_, comma, close, spelled, IsWritten}
use Rattle.net_lang.specs.declared.reader.rules.Target.{Target}
use Rattle.net_lang.specs.declared.reader.rules.Target.TheVariants as target
use Rattle.net_lang.specs.Forms.{Form, Header, Inputs, Define, target_word, spelled_form}
use Rattle.net_model.specs.Text.{call_text, formula_text, equation_text, equations_text, spaced_names, network_text}
use Rattle.rl_text.specs.Writing.{name, number, sign, newline, stops, Writes, Nothing, NameThen, NumberThen, SignThen, SpaceThen, NewlineThen}
use Rattle.line_lang.specs.Printing.{words_on}

-- a formula as it is printed, by the names of the inputs and of the lets
abbrev pub written : List (List ℕ) → List (List ℕ) → Formula → Expression
written inputs lets f.Never = Never
written inputs lets (f.Input i) = Name (slice_index_or inputs i [])
written inputs lets (f.Named j) = Name (slice_index_or lets j [])
written inputs lets (f.Min a b) = Min (written inputs lets a) (written inputs lets b)
written inputs lets (f.Max a b) = Max (written inputs lets a) (written inputs lets b)
written inputs lets (f.Lt a b) = Lt (written inputs lets a) (written inputs lets b)
written inputs lets (f.Inc a c) = Inc (written inputs lets a) (decimal c)

-- what it names has a name that a let may have, and the digits of its constants write them
abbrev pub IsPrintable : List (List ℕ) → List (List ℕ) → Formula → Type 0
IsPrintable inputs lets f.Never = Unit {0}
IsPrintable inputs lets (f.Input i) = is_let_name (slice_index_or inputs i []) ≡ true
IsPrintable inputs lets (f.Named j) = is_let_name (slice_index_or lets j []) ≡ true
IsPrintable inputs lets (f.Min a b) = IsPrintable inputs lets a × IsPrintable inputs lets b
IsPrintable inputs lets (f.Max a b) = IsPrintable inputs lets a × IsPrintable inputs lets b
IsPrintable inputs lets (f.Lt a b) = IsPrintable inputs lets a × IsPrintable inputs lets b
IsPrintable inputs lets (f.Inc a c) = IsPrintable inputs lets a × IsConstant c (decimal c)

pub let_name_is : (t : List ℕ) → is_let_name t ≡ true → is_name t ≡ true
let_name_is t h = (and_parts (is_name t) _ (and_parts _ (not (is_reserved t)) h).0).0

pub not_reserved : (t : List ℕ) → is_let_name t ≡ true → is_reserved t ≡ false
not_reserved t h = not-true (is_reserved t) (and_parts _ (not (is_reserved t)) h).1

pub is_written : (inputs lets : List (List ℕ)) (t : Formula) → IsPrintable inputs lets t → IsWritten (written inputs lets t)
is_written inputs lets f.Never h = tt
is_written inputs lets (f.Input i) h = not_reserved (slice_index_or inputs i []) h
is_written inputs lets (f.Named j) h = not_reserved (slice_index_or lets j []) h
is_written inputs lets (f.Min a b) h = (is_written inputs lets a h.0, is_written inputs lets b h.1)
is_written inputs lets (f.Max a b) h = (is_written inputs lets a h.0, is_written inputs lets b h.1)
is_written inputs lets (f.Lt a b) h = (is_written inputs lets a h.0, is_written inputs lets b h.1)
is_written inputs lets (f.Inc a c) h = (is_written inputs lets a h.0, h.1.plain)

-- ---- formulas

-- in front of a text that doesn't go on with it, the text is written with these words in front of the other's
abbrev WritesOn : List ℕ → List Word → Type 0
WritesOn text vs = (rest : List ℕ) (ws : List Word) → stops rest ≡ true → Writes rest ws → Writes (text ++ rest) (vs ++ ws)

call_bytes : (w a b rest : List ℕ) → call_text (w ++ codes "(") a b ++ rest ≡ w ++ (40 ∷ (a ++ (44 ∷ 32 ∷ (b ++ (41 ∷ rest)))))
call_bytes w a b rest = simp append_assoc

call_words : (w : Word) (a b ws : List Word) → ((w ∷ open_ ∷ a ++ comma ∷ b) ++ close ∷ []) ++ ws ≡ w ∷ open_ ∷ (a ++ (comma ∷ (b ++ (close ∷ ws))))
call_words w a b ws = simp append_assoc

writes_call : (w ta tb : List ℕ) (a b : List Word) → is_name w ≡ true → WritesOn ta a → WritesOn tb b → WritesOn (call_text (w ++ codes "(") ta tb) ((name w ∷ open_ ∷ a ++ comma ∷ b) ++ close ∷ [])
writes_call w ta tb a b h first second rest ws s r =
    let last = SignThen 41 refl r in
    let q = second (41 ∷ rest) (close ∷ ws) refl last in
    let c = SignThen 44 refl (SpaceThen q) in
    let p = first (44 ∷ 32 ∷ (tb ++ (41 ∷ rest))) (comma ∷ (b ++ (close ∷ ws))) refl c in
    let o = SignThen 40 refl p in
    let all = NameThen w h refl o in
    subst (λ (x : List ℕ). Writes x (((name w ∷ open_ ∷ a ++ comma ∷ b) ++ close ∷ []) ++ ws)) (sym (call_bytes w ta tb rest))
    (subst (λ (x : List Word). Writes (w ++ (40 ∷ (ta ++ (44 ∷ 32 ∷ (tb ++ (41 ∷ rest)))))) x) (sym (call_words (name w) a b ws)) all)

inc_words : (w n : Word) (a ws : List Word) → ((w ∷ open_ ∷ a ++ comma ∷ (n ∷ [])) ++ close ∷ []) ++ ws ≡ (w ∷ open_ ∷ a ++ comma ∷ n ∷ close ∷ []) ++ ws
inc_words w n a ws = simp append_assoc

writes_delay : (w ta tb : List ℕ) (a : List Word) → is_name w ≡ true → WritesOn ta a → WritesOn tb (number tb ∷ []) → WritesOn (call_text (w ++ codes "(") ta tb) (name w ∷ open_ ∷ a ++ comma ∷ number tb ∷ close ∷ [])
writes_delay w ta tb a h first second rest ws s r =
    subst (λ (x : List Word). Writes (call_text (w ++ codes "(") ta tb ++ rest) x) (inc_words (name w) (number tb) a ws) (writes_call w ta tb a (number tb ∷ []) h first second rest ws s r)

pub writes_formula : (inputs lets : List (List ℕ)) (t : Formula) → IsPrintable inputs lets t → WritesOn (formula_text inputs lets t) (spelled (written inputs lets t))
writes_formula inputs lets f.Never h = λ rest ws s r. NameThen (codes "never") refl s r
writes_formula inputs lets (f.Input i) h = λ rest ws s r. NameThen (slice_index_or inputs i []) (let_name_is (slice_index_or inputs i []) h) s r
writes_formula inputs lets (f.Named j) h = λ rest ws s r. NameThen (slice_index_or lets j []) (let_name_is (slice_index_or lets j []) h) s r
writes_formula inputs lets (f.Min a b) h = writes_call (codes "min") (formula_text inputs lets a) (formula_text inputs lets b) (spelled (written inputs lets a)) (spelled (written inputs lets b)) refl (writes_formula inputs lets a h.0) (writes_formula inputs lets b h.1)
writes_formula inputs lets (f.Max a b) h = writes_call (codes "max") (formula_text inputs lets a) (formula_text inputs lets b) (spelled (written inputs lets a)) (spelled (written inputs lets b)) refl (writes_formula inputs lets a h.0) (writes_formula inputs lets b h.1)
writes_formula inputs lets (f.Lt a b) h = writes_call (codes "lt") (formula_text inputs lets a) (formula_text inputs lets b) (spelled (written inputs lets a)) (spelled (written inputs lets b)) refl (writes_formula inputs lets a h.0) (writes_formula inputs lets b h.1)
writes_formula inputs lets (f.Inc a c) h =
    writes_delay (codes "inc") (formula_text inputs lets a) (decimal c) (spelled (written inputs lets a)) refl (writes_formula inputs lets a h.0) (λ rest ws s r. NumberThen (decimal c) h.1.number s r)

-- ---- lines

-- the line of a let or of an output
abbrev pub defining : Target → List (List ℕ) → List (List ℕ) → Equation → Form
defining k inputs lets e = Define k e.name (written inputs lets e.body)

-- the lines of a network's printing
abbrev pub forms : Net → List Form
forms n = Header ∷ Inputs n.inputs ∷ map (defining target.Let n.inputs (names_of n.lets)) n.lets ++ map (defining target.Output n.inputs (names_of n.lets)) n.outputs

-- its name is one, and what it names has one
abbrev pub HasNames : List (List ℕ) → List (List ℕ) → Equation → Type 0
HasNames inputs lets e = (is_name e.name ≡ true) × IsPrintable inputs lets e.body

equation_bytes : (w t x rest : List ℕ) → ((((w ++ codes " ") ++ t) ++ codes " = ") ++ x ++ codes "\n") ++ rest ≡ w ++ (32 ∷ (t ++ (32 ∷ 61 ∷ 32 ∷ (x ++ (10 ∷ rest)))))
equation_bytes w t x rest = simp append_assoc

writes_equation : (w : List ℕ) (inputs lets : List (List ℕ)) (e : Equation) (rest : List ℕ) (ws : List Word) → is_name w ≡ true → HasNames inputs lets e → Writes rest ws
    → Writes (equation_text (w ++ codes " ") inputs lets e ++ rest) (name w ∷ name e.name ∷ sign (codes "=") ∷ (spelled (written inputs lets e.body) ++ (newline ∷ ws)))
writes_equation w inputs lets e rest ws h p r =
    let x = formula_text inputs lets e.body in
    let vs = spelled (written inputs lets e.body) ++ (newline ∷ ws) in
    let body = writes_formula inputs lets e.body p.1 (10 ∷ rest) (newline ∷ ws) refl (NewlineThen r) in
    let sign_ = SignThen 61 refl (SpaceThen body) in
    let named = NameThen e.name p.0 refl (SpaceThen sign_) in
    let all = NameThen w h refl (SpaceThen named) in
    subst (λ (t : List ℕ). Writes t (name w ∷ name e.name ∷ sign (codes "=") ∷ vs)) (sym (equation_bytes w e.name x rest)) all

-- lines in front of others
line_words : (a b : List Word) (x : Word) (ws : List Word) → ((a ++ x ∷ []) ++ b) ++ ws ≡ a ++ (x ∷ (b ++ ws))
line_words a b x ws = simp append_assoc

target_is_name : (k : Target) → is_name (target_word k) ≡ true
target_is_name target.Let = refl
target_is_name target.Output = refl

writes_all : (k : Target) (inputs lets : List (List ℕ)) (es : List Equation) (rest : List ℕ) (ws : List Word) → AllByRecursion (HasNames inputs lets) es → Writes rest ws
    → Writes (equations_text (target_word k ++ codes " ") inputs lets es ++ rest) (words_on spelled_form (map (defining k inputs lets) es) ++ ws)
writes_all k inputs lets [] rest ws h r = r
writes_all k inputs lets (e ∷ es) rest ws h r =
    let w = target_word k ++ codes " " in
    let forms = map (defining k inputs lets) es in
    let more = writes_equation (target_word k) inputs lets e (equations_text w inputs lets es ++ rest) (words_on spelled_form forms ++ ws) (target_is_name k) h.0 (writes_all k inputs lets es rest ws h.1 r) in
    subst (λ (t : List ℕ). Writes t (words_on spelled_form (map (defining k inputs lets) (e ∷ es)) ++ ws)) (sym (append_assoc (equation_text w inputs lets e) (equations_text w inputs lets es) rest))
    (subst (λ (x : List Word). Writes (equation_text w inputs lets e ++ (equations_text w inputs lets es ++ rest)) x) (sym (line_words (spelled_form (defining k inputs lets e)) (words_on spelled_form forms) newline ws)) more)

names_stop : (names : List (List ℕ)) (rest : List ℕ) → stops rest ≡ true → stops (spaced_names names ++ rest) ≡ true
names_stop [] rest s = s
names_stop (t ∷ names) rest s = refl

writes_names : (names : List (List ℕ)) (rest : List ℕ) (ws : List Word) → list_all is_name names ≡ true → stops rest ≡ true → Writes rest ws → Writes (spaced_names names ++ rest) (map name names ++ ws)
writes_names [] rest ws h s r = r
writes_names (t ∷ names) rest ws h s r =
    let a = and_parts (is_name t) (list_all is_name names) h in
    let behind = spaced_names names ++ rest in
    let more = NameThen t a.0 (names_stop names rest s) (writes_names names rest ws a.1 s r) in
    let all = SpaceThen more in
    subst (λ (x : List ℕ). Writes x (name t ∷ (map name names ++ ws))) (sym (append_assoc (32 ∷ t) (spaced_names names) rest)) all

-- the first two lines
writes_head : (names : List (List ℕ)) (rest : List ℕ) (ws : List Word) → list_all is_name names ≡ true → Writes rest ws
    → Writes (codes "racenet 1\ninput" ++ (spaced_names names ++ (10 ∷ rest))) (name (codes "racenet") ∷ number (codes "1") ∷ newline ∷ name (codes "input") ∷ (map name names ++ (newline ∷ ws)))
writes_head names rest ws h r =
    let line = spaced_names names ++ (10 ∷ rest) in
    let vs = map name names ++ (newline ∷ ws) in
    let inputs = NameThen (codes "input") refl (names_stop names (10 ∷ rest) refl) (writes_names names (10 ∷ rest) (newline ∷ ws) h refl (NewlineThen r)) in
    let one = NumberThen (codes "1") refl refl (NewlineThen inputs) in
    NameThen (codes "racenet") refl refl
    (SpaceThen one)

-- ---- the whole text

network_bytes : (s l o : List ℕ) → (((codes "racenet 1\ninput" ++ s) ++ codes "\n") ++ l) ++ o ≡ codes "racenet 1\ninput" ++ (s ++ (10 ∷ (l ++ (o ++ []))))
network_bytes s l o = simp (append_assoc, append-nil)

network_words : (names l o : List Word) → name (codes "racenet") ∷ number (codes "1") ∷ newline ∷ name (codes "input") ∷ (names ++ (newline ∷ (l ++ (o ++ []))))
    ≡ ((name (codes "racenet") ∷ number (codes "1") ∷ []) ++ newline ∷ []) ++ (((name (codes "input") ∷ names) ++ newline ∷ []) ++ (l ++ o))
network_words names l o = simp (append_assoc, append-nil)

words_on-append : (xs ys : List Form) → words_on spelled_form (xs ++ ys) ≡ words_on spelled_form xs ++ words_on spelled_form ys
words_on-append [] ys = refl
words_on-append (x ∷ xs) ys = ap (λ (ws : List Word). (spelled_form x ++ newline ∷ []) ++ ws) (words_on-append xs ys) ∙ sym (append_assoc (spelled_form x ++ newline ∷ []) (words_on spelled_form xs) (words_on spelled_form ys))

pub writes_network : (n : Net) → list_all is_name n.inputs ≡ true → AllByRecursion (HasNames n.inputs (names_of n.lets)) n.lets → AllByRecursion (HasNames n.inputs (names_of n.lets)) n.outputs → Writes (network_text n) (words_on spelled_form (forms n))
unfolding network_text
writes_network n ins lets outs =
    let names = names_of n.lets in
    let ls = map (defining target.Let n.inputs names) n.lets in
    let os = map (defining target.Output n.inputs names) n.outputs in
    let lt = equations_text (codes "let ") n.inputs names n.lets in
    let ot = equations_text (codes "output ") n.inputs names n.outputs in
    let last = writes_all target.Output n.inputs names n.outputs [] [] outs Nothing in
    let middle = writes_all target.Let n.inputs names n.lets (ot ++ []) (words_on spelled_form os ++ []) lets last in
    let all = writes_head n.inputs (lt ++ (ot ++ [])) (words_on spelled_form ls ++ (words_on spelled_form os ++ [])) ins middle in
    let same : name (codes "racenet") ∷ number (codes "1") ∷ newline ∷ name (codes "input") ∷ (map name n.inputs ++ (newline ∷ (words_on spelled_form ls ++ (words_on spelled_form os ++ [])))) ≡ words_on spelled_form (forms n) =
    network_words (map name n.inputs) (words_on spelled_form ls) (words_on spelled_form os)
    ∙ ap (λ (ws : List Word). (spelled_form Header ++ newline ∷ []) ++ ((spelled_form (Inputs n.inputs) ++ newline ∷ []) ++ ws)) (sym (words_on-append ls os)) in
    subst (λ (t : List ℕ). Writes t (words_on spelled_form (forms n))) (sym (network_bytes (spaced_names n.inputs) lt ot)) (subst (λ (ws : List Word). Writes (codes "racenet 1\ninput" ++ (spaced_names n.inputs ++ (10 ∷ (lt ++ (ot ++ []))))) ws) same all)
