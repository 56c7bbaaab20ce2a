-- What a loop of fetches has read so far.
use Rattle.std.proofs.Common.{◌≡◌, ℕ, ◌+◌, ◌<◌, ◌≤◌, List, [], ◌++◌, length, take, drop, Option, Some, None, refl, sym, ◌∙◌, ap, arith, length-append}
use Rattle.std.specs.Prelude.{MatchOption, IfSome, IsSomeAnd}
use Rattle.std.proofs.lemmas.Grind.{common_steps}
use Rattle.std.proofs.Math.Seq.{take-add}
use Rattle.std.proofs.lemmas.List.{length-take-le}
use Rattle.std.specs.Map.{lookup}
use Rattle.std.specs.Str.{bytes_eq}
use Rattle.rl_io.specs.Files.{Files, OnFile}
use Rattle.rl_io.specs.Shelf.{FetchReads}
use Rattle.rl_io.specs.declared.shelf.Fetched.TheVariants.{Got, End}

-- the text is the front of the file, and nothing where there is no file
abbrev pub IsFront : Option (List ℕ) → List ℕ → Type 0
IsFront file text = MatchOption file (text ≡ []) (λ file. text ≡ take (length text) file)

-- where files are known, the text is the front of the file
abbrev pub HasRead : Option Files → List ℕ → List ℕ → Type 0
HasRead told name text = IfSome told (λ files. IsFront (lookup (bytes_eq name) files) text)

front_none : (file : Option (List ℕ)) → IsFront file []
front_none None = refl
front_none (Some file) = grind (arith, common_steps)

pub has_none : (told : Option Files) (name : List ℕ) → HasRead told name []
has_none None name = tt
has_none (Some files) name = front_none (lookup (bytes_eq name) files)

more_of : (file text buf : List ℕ) (n : ℕ) → text ≡ take (length text) file → n ≤ length buf → take n buf ≡ take n (drop (length text) file) → text ++ take n buf ≡ take (length (text ++ take n buf)) file
more_of file text buf n e le same =
    let len : length (text ++ take n buf) ≡ length text + n = omega (arith, length-append text (take n buf), length-take-le n buf le) in
    ap (λ t. t ++ take n buf) e ∙ ap (λ t. take (length text) file ++ t) same ∙ sym (take-add (length text) n file) ∙ ap (λ k. take k file) (sym len)

front_more : (file : Option (List ℕ)) (text buf : List ℕ) (n : ℕ) → IsFront file text → n ≤ length buf → IsSomeAnd file (λ file. (length text + n ≤ length file) × (take n buf ≡ take n (drop (length text) file))) → IsFront file (text ++ take n buf)
front_more None text buf n f le got = absurd got
front_more (Some file) text buf n f le got = more_of file text buf n f le got.1

pub has_more : (told : Option Files) (name text buf : List ℕ) (n : ℕ) → HasRead told name text → FetchReads (Got n) told name (length text) buf → HasRead told name (text ++ take n buf)
has_more None name text buf n has got = tt
has_more (Some files) name text buf n has got = front_more (lookup (bytes_eq name) files) text buf n has got.1 got.2

front_all : (file : Option (List ℕ)) (text : List ℕ) → IsFront file text → IsSomeAnd file (λ file. length file ≤ length text) → IsSomeAnd file (λ file. file ≡ text)
front_all None text f end = absurd end
front_all (Some file) text f end = grind (arith, common_steps)

pub has_all : (told : Option Files) (name text : List ℕ) → HasRead told name text → FetchReads End told name (length text) [] → OnFile told name (λ file. file ≡ text)
has_all None name text has end = tt
has_all (Some files) name text has end = front_all (lookup (bytes_eq name) files) text has end

longer : (file text : List ℕ) → text ≡ take (length text) file → length text ≤ length file
longer file text e = grind (arith, common_steps)

front_past : (file : Option (List ℕ)) (text : List ℕ) (limit : ℕ) → IsFront file text → limit < length text → IsSomeAnd file (λ file. limit < length file)
front_past None text limit f past = absurd (let e : length text ≡ 0 = ap length f in omega arith)
front_past (Some file) text limit f past = let le = longer file text f in omega arith

pub has_past : (told : Option Files) (name text : List ℕ) (limit : ℕ) → HasRead told name text → limit < length text → OnFile told name (λ file. limit < length file)
has_past None name text limit has past = tt
has_past (Some files) name text limit has past = front_past (lookup (bytes_eq name) files) text limit has past
