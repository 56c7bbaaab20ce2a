-- The first part of an expression, and those that are joined to it, taken one at a time.
use Rattle.std.proofs.Common.{◌≡◌, ℕ, suc, zero, ◌<◌, ◌≤◌, Bool, true, false, List, [], ◌∷◌, ◌++◌, length, All, refl, sym, ap, subst, ◌∙◌, arith}
use Rattle.std.proofs.lemmas.List.Elements.{All-nil, All-head, All-tail, All-append}
use Rattle.verilog_text.specs.Grammar.{Expression}
use Rattle.verilog_syntax.specs.View.{expression}
use Rattle.verilog_syntax.specs.declared.written.Written.{Written}
use Rattle.verilog_read.specs.declared.joint.Joint as source
use Rattle.verilog_read.specs.declared.joint.Halves.{Halves}
use Rattle.verilog_read.specs.declared.joint.Halves.TheVariants as halves
use Rattle.verilog_read.specs.Joined.{is_joined, join, joined, size, IsTakenApart, IsSpine}

-- the first of the joints may be joined to the first part beforehand
pub joined_first : (e : Expression) (js : List source.Joint) (j : source.Joint) → joined e (js ++ j ∷ []) ≡ joined (join j.is_and e (expression j.part)) js
joined_first e [] j = refl
joined_first e (k ∷ js) j = ap (λ (a : Expression). join k.is_and a (expression k.part)) (joined_first e js j)

pub size_join : (t : Bool) (a b : Expression) → (size a < size (join t a b)) × (size b < size (join t a b))
size_join true a b = (omega arith, omega arith)
size_join false a b = (omega arith, omega arith)

-- a part is no larger than what it is joined to
pub size_joined : (e : Expression) (js : List source.Joint) → size e ≤ size (joined e js)
size_joined e [] = omega arith
size_joined e (j ∷ js) = omega (arith, size_joined e js, (size_join j.is_and (joined e js) (expression j.part)).0)

cons : (P : source.Joint → Type 0) (j : source.Joint) (js : List source.Joint) → P j → All P js → All P (j ∷ js)
cons P j js p h zero d l = p
cons P j js p h (suc k) d l = h k d (omega (arith, l))

one : (P : source.Joint → Type 0) (j : source.Joint) → P j → All P (j ∷ [])
one P j p = cons P j [] p (All-nil P)

front_of : (P : source.Joint → Type 0) (js : List source.Joint) (j : source.Joint) → All P (js ++ j ∷ []) → All P js × P j
front_of P [] j h = (All-nil P, All-head P j [] h)
front_of P (i ∷ js) j h =
    let r = front_of P js j (All-tail P i (js ++ j ∷ []) h) in
    (cons P i js (All-head P i (js ++ j ∷ []) h) r.0, r.1)

abbrev Smaller : Expression → source.Joint → Type 0
Smaller w j = size (expression j.part) < size w

-- nothing is joined to it yet
pub spine_whole : (w : Expression) → IsSpine w w []
spine_whole w = record { same = refl; smaller = All-nil (Smaller w) }

-- the first part is taken apart
pub spine_longer : (w e f : Expression) (js : List source.Joint) (j : source.Joint) → IsSpine w e js → e ≡ join j.is_and f (expression j.part) → IsSpine w f (js ++ j ∷ [])
spine_longer w e f js j h p = record {
  same = joined_first f js j ∙ ap (λ a. joined a js) (sym p) ∙ h.same;
  smaller = All-append (Smaller w) js (j ∷ []) h.smaller (one (Smaller w) j
      (omega (arith, ap size p, ap size h.same, size_joined e js, (size_join j.is_and f (expression j.part)).1)));
}

-- the first of the others is joined to the first part
pub spine_shorter : (w f : Expression) (js : List source.Joint) (j : source.Joint) → IsSpine w f (js ++ j ∷ []) → IsSpine w (join j.is_and f (expression j.part)) js × (size (expression j.part) < size w)
spine_shorter w f js j h =
    let r = front_of (Smaller w) js j h.smaller in
    (record { same = sym (joined_first f js j) ∙ h.same; smaller = r.0 }, r.1)

-- nothing is still to be joined
pub spine_none : (w e : Expression) (js : List source.Joint) → (0 < length js → false ≡ true) → IsSpine w e js → e ≡ w
spine_none w e [] n h = h.same
spine_none w e (j ∷ js) n h = let b : false ≡ true = n (omega arith) in cc

pub spine_first : (w e : Expression) (js : List source.Joint) → IsSpine w e js → size e ≤ size w
spine_first w e js h = omega (arith, ap size h.same, size_joined e js)

-- what is still to be taken apart
abbrev pub left : Halves → ℕ
left (halves.Single s) = size (expression s)
left (halves.Joined a j) = suc (size (expression a))

pub left_of : (e : Expression) (h : Halves) → IsTakenApart e h → left h ≤ size e
left_of e (halves.Single s) p = omega (arith, ap size p.0)
left_of e (halves.Joined a j) p = omega (arith, ap size p, (size_join j.is_and (expression a) (expression j.part)).0)

pub single_spine : (w e : Expression) (js : List source.Joint) (h : Halves) (s : Written) → IsTakenApart e h → IsSpine w e js → h ≡ halves.Single s → IsSpine w (expression s) js × (is_joined (expression s) ≡ false)
single_spine w e js h s t p q =
    let r = subst (IsTakenApart e) q t in
    (subst (λ a. IsSpine w a js) (sym r.0) p, ap is_joined r.0 ∙ r.1)
