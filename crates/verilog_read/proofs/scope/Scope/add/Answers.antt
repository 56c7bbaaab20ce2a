use Rattle.std.proofs.Common.{◌≡◌, Option, None, Some, false, cond, refl, sym, subst, ap, ◌∙◌}
use Rattle.std.specs.Option.{is_some}
use Rattle.std.specs.Str.{bytes_eq}
use Rattle.verilog_read.specs.Scope.{Names, find, names_of, AreFound}
use Rattle.verilog_read.specs.declared.scope.Declared.{Declared}
use Rattle.verilog_read.specs.declared.scope.Meaning.{Meaning}
use Rattle.verilog_read.proofs.Scopes.{in_map, declared, still_found, found_itself, found_more}
use Rattle.verilog_read.proofs.scope.Scope.add.Goals as goal

none_was : (o : Option Meaning) → is_some o ≡ false → o ≡ None
none_was None h = refl
none_was (Some x) h = absurd cc

-- src/scope.rt:74:13
pub returns-then-is_some : goal.returns-then-is_some
returns-then-is_some c = λ t.
    declared c.self.inside.map c.insert.new.self c.args.name.now c.args.meaning c.in_ok-insert.ensures.updates t
    ∙ ap (λ (ns : Names). cond (bytes_eq c.args.name.now t) (Some c.args.meaning) (find ns t)) c.self.view_is

pub invariant_of-self-else-is_some : goal.invariant_of-self-else-is_some
invariant_of-self-else-is_some c =
    let none : find (names_of c.self.inside.map) c.args.name.now ≡ None =
    sym (in_map c.self.inside.map c.args.name.now) ∙ (sym c.in_ok-insert.ensures.old ∙ none_was c.in_ok-insert.field-0 (sym c.is_some.ensures ∙ c.if-is_some.false)) in
    still_found c.self.inside.map c.insert.new.self c.args.name.now c.args.meaning c.in_ok-insert.ensures.updates c.self.inside.listed.items none c.self.invariant

-- src/scope.rt:69:5
pub invariant_of-self-2 : goal.invariant_of-self-2
invariant_of-self-2 c =
    let same : names_of c.self-2.inside.map ≡ names_of c.insert.new.self = c.self-2.view_is ∙ c.note.ensures in
    let itself : find (names_of c.self-2.inside.map) c.args.name.now ≡ Some c.args.meaning =
    ap (λ (ns : Names). find ns c.args.name.now) same ∙ found_itself c.self.inside.map c.insert.new.self c.args.name.now c.args.meaning c.in_ok-insert.ensures.updates in
    let d : Declared = record { name = c.args.name; meaning = c.args.meaning } in
    subst (λ ds. AreFound (names_of c.self-2.inside.map) ds) (sym c.in_ok-push.ensures.items)
    (found_more (names_of c.self-2.inside.map) c.self-2.inside.listed.items d c.self-2.invariant itself)

-- src/scope.rt:69:5
pub returns : goal.returns
returns c = λ t.
    ap (λ (ns : Names). find ns t) (c.self-2.view_is ∙ c.note.ensures)
    ∙ declared c.self.inside.map c.insert.new.self c.args.name.now c.args.meaning c.in_ok-insert.ensures.updates t
    ∙ ap (λ (ns : Names). cond (bytes_eq c.args.name.now t) (Some c.args.meaning) (find ns t)) c.self.view_is
