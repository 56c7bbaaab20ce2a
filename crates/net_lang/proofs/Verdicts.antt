-- The lines of networks are read and judged as those of a language of lines.
use Rattle.std.proofs.Common.{◌≡◌, true, false, ltb, length, None, refl}
use Rattle.std.proofs.lemmas.Bool.{le-ltb}
use Rattle.line_lang.specs.Language.{IsRead}
use Rattle.net_lang.specs.declared.reader.rules.Stage.TheVariants as stage
use Rattle.net_lang.specs.declared.reader.draft.Draft as source
use Rattle.net_lang.specs.Forms.{Header}
use Rattle.net_lang.specs.FormReading.{form_at}
use Rattle.net_lang.specs.LineRules.{allows, first_rule, joins_in, delays_in}
use Rattle.net_lang.specs.Spelling.{networks}
use Rattle.net_lang.specs.Draft.{net_of, so_far, IsDraft, Adds}
use Rattle.net_lang.proofs.Partial.{part_after}
use Rattle.net_lang.proofs.FormLemmas.{form_some, form_again}

pub is_read : IsRead networks form_at
is_read = record { sound = form_some; complete = form_again }

-- ---- a header

pub header_kept : (d new : source.Draft) → IsDraft d → allows d.stage Header ≡ true → new ≡ record d { stage = stage.Header } → (first_rule (net_of d) Header ≡ None) × Adds d Header new
unfolding first_rule
header_kept d new h a e =
    let s = h.part.sound in
    let i : ltb 64 (length d.inputs.items) ≡ false = le-ltb 64 _ s.few_inputs in
    let o : ltb 64 (length d.outputs.items) ≡ false = le-ltb 64 _ s.few_outputs in
    let j : ltb 16384 (joins_in (net_of d)) ≡ false = le-ltb 16384 _ s.few_joins in
    let k : ltb 16384 (delays_in (net_of d)) ≡ false = le-ltb 16384 _ s.few_delays in
    let rule : first_rule (net_of d) Header ≡ None = rw (i, o, j, k) refl in
    (rule, rw e (record { now = refl; draft = record { names = h.names; joins = h.joins; delays = h.delays; part = part_after (so_far d) Header h.part a rule tt } }))
