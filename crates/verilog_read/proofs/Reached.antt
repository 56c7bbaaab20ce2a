-- Statements one after the other, as a loop takes them.
use Rattle.std.proofs.Common.{◌≡◌, ℕ, suc, ◌<◌, Bool, true, false, not, ◌||◌, ltb, List, [], ◌∷◌, ◌++◌, length, map, Option, Some, None, Ok, refl, sym, ap, subst, ◌∙◌, arith, inl, inr, length-append}
use denote.Bor.{Bor}
use Rattle.std.specs.Prelude.{is_some}
use Rattle.std.specs.List.{list_all}
use Rattle.std.proofs.lemmas.List.{length-map}
use Rattle.rl_text.specs.Lexemes.{Lexeme}
use Rattle.circuit.specs.declared.bit.Target.TheVariants as target
use Rattle.circuit.specs.Circuit.{circuit}
use Rattle.verilog_text.specs.declared.rule.Rule.{Rule}
use Rattle.verilog_text.specs.declared.rule.Rule.TheVariants as rule
use Rattle.verilog_text.specs.Grammar as g
use Rattle.verilog_text.specs.Grammar.{Form}
use Rattle.verilog_text.specs.Statements.{Statement, Stage, Start, Declarations, Actions, Finished, allows, stage_after, MayPrecede, Opens, Leads, AreStatements}
use Rattle.verilog_text.specs.Spelling.{AllStand, FirstBroken}
use Rattle.verilog_text.specs.Judging.{SoFar, nothing_yet, is_given, is_unfinished, module_of, first_of, first_rule, breaks_name, breaks_order, breaks_width, breaks_limit, after}
use Rattle.verilog_laws.specs.Sound.{IsSound}
use Rattle.verilog_syntax.specs.declared.error.SyntaxError.{SyntaxError}
use Rattle.verilog_syntax.specs.declared.error.SyntaxError.TheVariants as syntax_error
use Rattle.verilog_syntax.specs.Reads.{is_finished, LacksAt}
use Rattle.verilog_read.specs.declared.draft.Draft as source
use Rattle.verilog_read.specs.declared.draft.Fault.{Fault}
use Rattle.verilog_read.specs.Outcome.{of_syntax, error_of, Names, Fails}
use Rattle.verilog_read.specs.Known.{meaning_found}
use Rattle.verilog_read.specs.Draft.{IsDraft, IsReady, IsEmpty, JudgesNext, is_unfinished_by}
use Rattle.verilog_read.proofs.Kept.{order_broken, none_broken}
use Rattle.verilog_read.proofs.Flags.{flags_all, nexts_all}

-- ---- the end

module _ (d : source.Draft) (x : SoFar) (h : IsDraft d x) where
  unfinished_is : is_unfinished_by d ≡ is_unfinished x
  unfinished_is =
      let l : length d.to_declare.items ≡ length x.to_declare = sym (length-map d.to_declare.items (λ (p : Bor (List ℕ)). p.now)) ∙ ap length h.to_declare in
      let u : list_all (λ b. b) d.updated.items ≡ list_all (λ r. is_some r.next) x.regs = ap (λ (fs : List Bool). list_all (λ b. b) fs) h.updated ∙ nexts_all x.regs in
      λ i. ((ltb 0 (l i) || not (flags_all d.given_wires.items (length x.wires) (λ w. is_given x.assigns (target.Wire w)) h.given_wires i))
      || not (flags_all d.given_outputs.items (length x.outputs) (λ o. is_given x.assigns (target.Out o)) h.given_outputs i)) || not (u i)

  pub end_broken : (b : Bool) → b ≡ is_unfinished_by d → b ≡ true → first_rule x g.End ≡ Some rule.Order
  end_broken b e t = order_broken x g.End refl (sym unfinished_is ∙ sym e ∙ t)

  pub end_stands : (b : Bool) → b ≡ is_unfinished_by d → b ≡ false → first_rule x g.End ≡ None
  end_stands b e t = none_broken x g.End refl (sym unfinished_is ∙ sym e ∙ t) refl refl

-- ---- stages

-- before the header there is nothing
abbrev IsFresh : Stage → SoFar → Type 0
IsFresh Start x = x ≡ nothing_yet
IsFresh _ x = Unit {0}

header_start : (s : Stage) (n : List ℕ) (ports : List (List ℕ)) (x : SoFar) → allows s (g.Header n ports) ≡ true → IsFresh s x → x ≡ nothing_yet
header_start Start n ports x e h = h
header_start Declarations n ports x e h = absurd cc
header_start Actions n ports x e h = absurd cc
header_start Finished n ports x e h = absurd cc

pub ready : (s : Stage) (f : Form) (d : source.Draft) (x : SoFar) → allows s f ≡ true → IsFresh s x → IsDraft d x → IsReady d f
ready s (g.Header n ports) d x e p h = subst (IsDraft d) (header_start s n ports x e p) h
ready s (g.Input n) d x e p h = (x, h)
ready s (g.Output n) d x e p h = (x, h)
ready s (g.Wire n) d x e p h = (x, h)
ready s (g.Reg l n) d x e p h = (x, h)
ready s (g.Assign n a) d x e p h = (x, h)
ready s (g.Always r z u a) d x e p h = (x, h)
ready s g.End d x e p h = (x, h)

fresh_after : (f : Form) (y : SoFar) → IsFresh (stage_after f) y
fresh_after (g.Header n ports) y = tt
fresh_after (g.Input n) y = tt
fresh_after (g.Output n) y = tt
fresh_after (g.Wire n) y = tt
fresh_after (g.Reg l n) y = tt
fresh_after (g.Assign n a) y = tt
fresh_after (g.Always r z u a) y = tt
fresh_after g.End y = tt

-- ---- the loop

-- statements that break no rule stay sound
abbrev pub StaySound : Type 0
StaySound = (x : SoFar) (f : Form) → IsSound x → first_rule x f ≡ None → IsSound (after x f)

named_so : (P : Rule → ℕ → Type 0) (r : Rule) (n : ℕ) → P r n → Names (error_of r n) P
named_so P rule.Syntax n h = h
named_so P rule.Name n h = h
named_so P rule.Order n h = h
named_so P rule.Width n h = h
named_so P rule.Limit n h = h

-- what the statements before are: they break no rule, and the draft is of them; or the first fault is this
abbrev pub Judged : List Statement → source.Draft → Option Fault → Stage → Type 0
Judged before d None k = (x : SoFar) × AllStand nothing_yet before x × IsDraft d x × IsFresh k x
Judged before d (Some f) k = FirstBroken nothing_yet before f.rule f.line

-- the words begin with statements, which are judged, and then there is the rest
pub record Reading (ls : List Lexeme) (d : source.Draft) (b : Option Fault) (k : Stage) (rest : List Lexeme) : Type 0 where
  pub before : List Statement
  pub leads : Leads Start ls before k rest
  pub ends : k ≡ Finished → rest ≡ []
  pub judged : Judged before d b k

pub begins : (ls : List Lexeme) (d : source.Draft) → IsSound nothing_yet → IsEmpty d → Reading ls d None Start ls
begins ls d sound e = record {
  before = [];
  leads = (refl, refl);
  ends = λ f. absurd cc;
  judged = (
    nothing_yet,
    refl,
    record {
      to_declare = ap (λ ps. map (λ p. p.now) ps) e.to_declare;
      names = λ t. ap meaning_found (e.scope t);
      inputs = e.inputs;
      outputs = e.outputs;
      wires = e.wires;
      regs = e.regs;
      assigns = e.assigns;
      given_wires = record { len = ap length e.given_wires; each = λ k lt. absurd (omega (arith, lt)) };
      given_outputs = record { len = ap length e.given_outputs; each = λ k lt. absurd (omega (arith, lt)) };
      updated = e.updated;
      bits = e.bits;
      sound = sound;
    },
    refl,
  );
}

-- ---- one statement more

leads_more : (k : Stage) (ls : List Lexeme) (before : List Statement) (last : Stage) (rest : List Lexeme) (s : Statement) (after : List Lexeme) → Leads k ls before last rest → Opens last rest s after → Leads k ls (before ++ s ∷ []) (stage_after s.form) after
leads_more k ls [] last rest s after x o =
    (after, subst (λ (j : Stage). Opens j ls s after) (sym x.0) (subst (λ (r : List Lexeme). Opens last r s after) (sym x.1) o), (refl, refl))
leads_more k ls (b ∷ bs) last rest s after x o = (x.0, x.1, leads_more (stage_after b.form) x.0 bs last rest s after x.2 o)

ended : (f : Form) (rest : List Lexeme) → MayPrecede f rest → stage_after f ≡ Finished → rest ≡ []
ended (g.Header n ports) rest m e = absurd cc
ended (g.Input n) rest m e = absurd cc
ended (g.Output n) rest m e = absurd cc
ended (g.Wire n) rest m e = absurd cc
ended (g.Reg l n) rest w e = absurd cc
ended (g.Assign n a) rest m e = absurd cc
ended (g.Always r z s n) rest m e = absurd cc
ended g.End rest m e = m

stand_more : (x : SoFar) (ss : List Statement) (y : SoFar) (s : Statement) → AllStand x ss y → first_rule y s.form ≡ None → AllStand x (ss ++ s ∷ []) (after y s.form)
stand_more x [] y s a r = (ap (λ (z : SoFar). first_rule z s.form) a ∙ r, ap (λ (z : SoFar). after z s.form) a)
stand_more x (t ∷ ss) y s a r = (a.0, stand_more (after x t.form) ss y s a.1 r)

broken_then : (x : SoFar) (ss : List Statement) (y : SoFar) (s : Statement) (r : Rule) → AllStand x ss y → first_rule y s.form ≡ Some r → FirstBroken x (ss ++ s ∷ []) r s.line
broken_then x [] y s r a e = inl (ap (λ (z : SoFar). first_rule z s.form) a ∙ e, refl)
broken_then x (t ∷ ss) y s r a e = inr (a.0, broken_then (after x t.form) ss y s r a.1 e)

broken_more : (x : SoFar) (ss : List Statement) (s : Statement) (r : Rule) (n : ℕ) → FirstBroken x ss r n → FirstBroken x (ss ++ s ∷ []) r n
broken_more x [] s r n b = absurd b
broken_more x (t ∷ ss) s r n (inl b) = inl b
broken_more x (t ∷ ss) s r n (inr b) = inr (b.0, broken_more (after x t.form) ss s r n b.1)

judged_more : StaySound → (before : List Statement) (d : source.Draft) (b : Option Fault) (k : Stage) (s : Statement) (new : source.Draft) (c : Option Fault) →
    Judged before d b k → JudgesNext d b s new (Ok c) → Judged (before ++ s ∷ []) new c (stage_after s.form)
judged_more stay before d None k s new None j n =
    let m = n j.0 j.2 (stay j.0 s.form j.2.sound) in
    (after j.0 s.form, stand_more nothing_yet before j.0 s j.1 m.0, m.1, fresh_after s.form (after j.0 s.form))
judged_more stay before d None k s new (Some f) j n =
    subst (λ (l : ℕ). FirstBroken nothing_yet (before ++ s ∷ []) f.rule l) (sym n.0) (broken_then nothing_yet before j.0 s f.rule j.1 (n.1 j.0 j.2))
judged_more stay before d (Some f) k s new c j n =
    subst (λ (o : Option Fault). Judged (before ++ s ∷ []) new o (stage_after s.form)) (sym n) (broken_more nothing_yet before s f.rule f.line j)

module _ (ls : List Lexeme) (d : source.Draft) (b : Option Fault) (k : Stage) (rest : List Lexeme) (h : Reading ls d b k rest) where
  pub next_ready : (s : Statement) (after : List Lexeme) → Opens k rest s after → b ≡ None → IsReady d s.form
  next_ready s after o e =
      let j : Judged h.before d None k = subst (λ (c : Option Fault). Judged h.before d c k) e h.judged in
      ready k s.form d j.0 o.allowed j.3 j.2

  pub goes_on : StaySound → (s : Statement) (behind : List Lexeme) (next : Stage) (new : source.Draft) (c : Option Fault) → Opens k rest s behind → next ≡ stage_after s.form → JudgesNext d b s new (Ok c) → Reading ls new c next behind
  goes_on stay s behind next new c o e n = record {
    before = h.before ++ s ∷ [];
    leads = subst (λ (j : Stage). Leads Start ls (h.before ++ s ∷ []) j behind) (sym e) (leads_more Start ls h.before k rest s behind h.leads o);
    ends = λ f. ended s.form behind o.whole (sym e ∙ f);
    judged = subst (λ (j : Stage). Judged (h.before ++ s ∷ []) new c j) (sym e) (judged_more stay h.before d b k s new c h.judged n);
  }

  pub stops : (end : ℕ) (e : SyntaxError) → is_finished k ≡ false → LacksAt k rest end e → Names (of_syntax e) (Fails ls end)
  stops end syntax_error.NoMemory u n = tt
  stops end (syntax_error.At line) u n = record {
    before = h.before;
    stage = k;
    rest = rest;
    leads = h.leads;
    unfinished = λ e. let f : is_finished Finished ≡ false = ap is_finished (sym e) ∙ u in cc;
    nothing = n.1;
    is = n.0;
  }

  finished_is : (k : Stage) → is_finished k ≡ true → k ≡ Finished
  finished_is Finished e = refl
  finished_is Start e = absurd cc
  finished_is Declarations e = absurd cc
  finished_is Actions e = absurd cc

  all_led : is_finished k ≡ true → AreStatements ls h.before
  all_led e =
      let f = finished_is k e in
      subst (λ (r : List Lexeme). Leads Start ls h.before Finished r) (h.ends f) (subst (λ (j : Stage). Leads Start ls h.before j rest) f h.leads)

  pub whole : is_finished k ≡ true → b ≡ None → (ss : List Statement) × (x : SoFar) × AreStatements ls ss × AllStand nothing_yet ss x × IsDraft d x
  whole f e =
      let j : Judged h.before d None k = subst (λ (c : Option Fault). Judged h.before d c k) e h.judged in
      (h.before, j.0, all_led f, j.1, j.2)

  pub faulty : (end : ℕ) (f : Fault) → is_finished k ≡ true → b ≡ Some f → Names (error_of f.rule f.line) (Fails ls end)
  faulty end f u e =
      let j : Judged h.before d (Some f) k = subst (λ (c : Option Fault). Judged h.before d c k) e h.judged in
      named_so (Fails ls end) f.rule f.line (named f.rule j) where
        no_first : (a b c d : Bool) → first_of a b c d ≡ Some rule.Syntax → ⊥
        no_first true b c d e = cc
        no_first false true c d e = cc
        no_first false false true d e = cc
        no_first false false false true e = cc
        no_first false false false false e = cc

        no_syntax : (ss : List Statement) (x : SoFar) (n : ℕ) → FirstBroken x ss rule.Syntax n → ⊥
        no_syntax [] x n h = h
        no_syntax (s ∷ ss) x n (inl h) = no_first (breaks_name x s.form) (breaks_order x s.form) (breaks_width x s.form) (breaks_limit x s.form) h.0
        no_syntax (s ∷ ss) x n (inr h) = no_syntax ss (after x s.form) n h.1

        named : (r : Rule) → FirstBroken nothing_yet h.before r f.line → Fails ls end r f.line
        named rule.Syntax b = absurd (no_syntax h.before nothing_yet f.line b)
        named rule.Name b = (h.before, all_led u, b)
        named rule.Order b = (h.before, all_led u, b)
        named rule.Width b = (h.before, all_led u, b)
        named rule.Limit b = (h.before, all_led u, b)

pub opened_short : (k : Stage) (ls rest : List Lexeme) (s : Statement) → Opens k ls s rest → length rest < length ls
opened_short k ls rest s o =
    let e : length ls ≡ suc (length (o.others ++ rest)) = ap length o.split in
    omega (arith, e, length-append o.others rest)

-- the module of a draft
pub module_is : (d : source.Draft) (x : SoFar) → IsDraft d x → circuit d.inputs.items d.outputs.items d.wires.items d.regs.items d.assigns.items ≡ module_of x
module_is d x h = λ i. circuit (h.inputs i) (h.outputs i) (h.wires i) (h.regs i) (h.assigns i)
