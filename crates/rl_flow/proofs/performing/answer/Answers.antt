use Rattle.std.proofs.Common.{◌∙◌, ℕ, List, Vec, Global, length, map, ap, sym, subst}
use Rattle.std.proofs.lemmas.List.{length-map}
use Rattle.rl_flow.specs.Words.{texts_of}
use Rattle.rl_flow.specs.Task.{Command, command_of}
use Rattle.rl_flow.specs.Request.{task}
use Rattle.rl_flow.specs.Jobs.{refusal_of}
use Rattle.rl_flow.specs.Asked.{shelf_state, with_limits, AreTextsOf, AreWithin}
use Rattle.rl_flow.specs.Outcome.{HasCause}
use Rattle.rl_flow.proofs.Loads.{within, one_each, refuses, handed_on}
use Rattle.rl_flow.proofs.performing.answer.Goals as goal

pub load_files-requires-clause-each : goal.load_files-requires-clause-each
load_files-requires-clause-each g c = ap length c.limits.ensures.limits ∙ c.in-Some.ensures.each

pub answer_to-requires-clause-count : goal.answer_to-requires-clause-count
answer_to-requires-clause-count g c =
    let items = λ (t : Vec ℕ Global). t.items in
    let texts = map items c.in_ok-texts.texts.items in
    let all = within (g.S.Shelf.contents c.args.shelf.now) (texts_of c.in-Some.command.files.now) c.limits.result.now texts
    (ap length c.limits.ensures.limits ∙ (c.in-Some.ensures.each ∙ sym (length-map c.in-Some.command.files.now _))) c.in_ok-texts.ensures.texts in
    ap length c.deref.ensures.value ∙ (sym (length-map c.in_ok-texts.texts.items items) ∙ (one_each c.limits.result.now texts all ∙ ap length c.limits.ensures.limits))

pub answer_to-requires-clause-short : goal.answer_to-requires-clause-short
answer_to-requires-clause-short g c =
    let items = λ (t : Vec ℕ Global). t.items in
    let texts = map items c.in_ok-texts.texts.items in
    let all = within (g.S.Shelf.contents c.args.shelf.now) (texts_of c.in-Some.command.files.now) c.limits.result.now texts
    (ap length c.limits.ensures.limits ∙ (c.in-Some.ensures.each ∙ sym (length-map c.in-Some.command.files.now _))) c.in_ok-texts.ensures.texts in
    subst (λ (l : List ℕ). AreWithin l (map items c.deref.result.now)) c.limits.ensures.limits
    (subst (λ (ts : List (Vec ℕ Global)). AreWithin c.limits.result.now (map items ts)) (sym c.deref.ensures.value) all)

pub returns-in_err-answer_to-clause-cause : goal.returns-in_err-answer_to-clause-cause
returns-in_err-answer_to-clause-cause g c =
    λ failed after.
    let before = shelf_state (g.S.Shelf.contents c.args.shelf.now) (g.S.Shelf.faults c.args.shelf.now) (g.S.Shelf.given c.args.shelf.now) in
    let now = shelf_state (g.S.Shelf.contents c.load_files.new.shelf) (g.S.Shelf.faults c.load_files.new.shelf) (g.S.Shelf.given c.load_files.new.shelf) in
    let items = λ (t : Vec ℕ Global). t.items in
    let names = texts_of c.in-Some.command.files.now in
    let command : Command = record { files = names; task = task c.in-Some.command.request } in
    let known = g.S.Shelf.contents c.args.shelf.now in
    let texts = subst (λ (ts : List (Vec ℕ Global)). AreTextsOf known (with_limits names c.limits.result.now) (map items ts)) (sym c.deref.ensures.value) c.in_ok-texts.ensures.texts in
    let asked_texts = subst (λ (l : List ℕ). AreTextsOf known (with_limits names l) (map items c.deref.result.now)) c.limits.ensures.limits texts in
    handed_on c.from_residual-in_err-answer_to.result (refusal_of c.in_err-answer_to.field-0.0) (HasCause (command_of (texts_of c.args.words.now)) before now failed after) c.from_residual-in_err-answer_to.ensures.1
    (refuses before now (command_of (texts_of c.args.words.now)) command failed after (map items c.deref.result.now) c.in_err-answer_to.field-0.0 (sym c.in-Some.ensures.command) asked_texts c.in_err-answer_to.ensures.cause)
