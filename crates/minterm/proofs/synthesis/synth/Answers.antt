use Rattle.std.proofs.Common.{◌≡◌, ◌≤◌, [], ◌∷◌, ap, subst, sym, ◌∙◌, length, map}
use Rattle.term_store.specs.Tree.{value, span}
use Rattle.term_store.specs.Trees.{tree, trees_at}
use Rattle.term_store.specs.Subterms.{AreNetworkTerms, register_bits}
use Rattle.minterm.specs.Minterms.{minterm, earliest, synthesised}
use Rattle.minterm.proofs.TableTimes.{table_is}
use Rattle.minterm.proofs.synthesis.synth.Goals.{After-put_earliest}
use Rattle.minterm.proofs.synthesis.synth.Goals as goal

term_is : (c : After-put_earliest) → tree c.put_earliest.new.store.nodes c.put_earliest.result.0 ≡ synthesised c.args.table.now
term_is c =
    c.put_earliest.ensures.planted.tree_is
    ∙ (ap (λ ts. earliest (trees_at c.put_rows.new.store.nodes ts)) c.deref-2.ensures.value
    ∙ (ap earliest c.put_rows.ensures.planted.trees_are ∙ ap (λ rows. earliest (map minterm rows)) c.rows-2.ensures))

pub returns-clause-times : goal.returns-clause-times
returns-clause-times c = λ x l. ap (value x) (term_is (goal.at.returns-clause-times c).After-put_earliest) ∙ table_is c.args.table.now x c.rules-2.ensures c.requires.sound l

pub returns-clause-terms : goal.returns-clause-terms
returns-clause-terms c =
    subst (λ t. AreNetworkTerms (length c.args.table.now.inputs) (t ∷ [])) (sym (term_is (goal.at.returns-clause-terms c).After-put_earliest)) (c.table_terms_are_few.ensures.terms c.args.table.now c.rules-2.ensures)

pub returns-clause-short : goal.returns-clause-short
returns-clause-short c =
    subst (λ t. span t ≤ 256) (sym (term_is (goal.at.returns-clause-short c).After-put_earliest)) (c.table_terms_are_few.ensures.short c.args.table.now c.rules-2.ensures)

pub returns-clause-bits : goal.returns-clause-bits
returns-clause-bits c =
    subst (λ t. register_bits (t ∷ []) ≤ 65536) (sym (term_is (goal.at.returns-clause-bits c).After-put_earliest)) (c.table_terms_are_few.ensures.bits c.args.table.now c.rules-2.ensures)
