use Rattle.std.proofs.Common.{refl, sym, ◌∙◌}
use Rattle.std.proofs.lemmas.List.{map_push}
use Rattle.net_lang.proofs.Names.{one_more, none_more, all_done, from_none}
use Rattle.net_lang.proofs.reader.form.names_at.Goals as goal

pub loop-w-init : goal.loop-w-init
loop-w-init c = rw c.new-names.ensures.items (from_none _)

pub returns-then-not-is_name : goal.returns-then-not-is_name
returns-then-not-is_name c = let h = sym c.is_name.ensures ∙ c.if-not-is_name.true in (refl, sym c.loop-w.invariant ∙ none_more _ c.loop-w.rest _ _ c.in-Some.ensures h)

pub loop-w-preserved : goal.loop-w-preserved
loop-w-preserved c =
    let h = sym c.is_name.ensures ∙ c.if-not-is_name.false in
    rw (c.in_ok-push.ensures.items, map_push) (sym (one_more _ c.loop-w.rest _ _ c.in-Some.ensures h) ∙ c.loop-w.invariant)

pub returns : goal.returns
returns c = sym c.loop-w.invariant ∙ all_done _ c.loop-w.rest c.in_default.ensures.0
