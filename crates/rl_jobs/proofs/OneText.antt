-- Bytes have at most one text for each job.
use Rattle.std.proofs.Common.{◌≡◌, ℕ, ◌<◌, List, [], ◌∷◌, length, refl, sym, ◌∙◌, ap, subst}
use Rattle.std.specs.List.{All}
use Rattle.std.proofs.lemmas.List.Elements.{All-head, All-tail}
use Rattle.rl_time.specs.declared.time.Time.{Time}
use Rattle.net_model.specs.Formula.{Net}
use Rattle.net_model.specs.Text.{network_text}
use Rattle.net_lang.specs.Spelling.{SpellsNetwork}
use Rattle.term_store.specs.declared.node.Term.{Term}
use Rattle.term_store.specs.declared.node.Node.{Node}
use Rattle.term_store.specs.Tree.{Tree}
use Rattle.term_store.specs.Nodes.{IsNodes}
use Rattle.term_store.specs.Trees.{plant, tree, trees_at}
use Rattle.term_store.specs.Laws.{AreApart}
use Rattle.term_store.specs.Extracted.{extracted}
use Rattle.minterm.specs.Minterms.{table_terms}
use Rattle.circuit.specs.Circuit.{Circuit}
use Rattle.verilog_text.specs.Text.{module_text}
use Rattle.gate_lower.specs.Netlist.{Netlist}
use Rattle.gate_lower.specs.Lowered.{lowered}
use Rattle.gate_lower.specs.Tapped.{tapped_module}
use Rattle.func_table.specs.Table.{Row, Table}
use Rattle.func_table.specs.Text.{table_text}
use Rattle.spike_eval.specs.Outputs.{output_function}
use Rattle.causality.specs.Window.{window_rows}
use Rattle.rl_jobs.specs.declared.source.Source.{Source}
use Rattle.rl_jobs.specs.Readings.{IsReading}
use Rattle.rl_jobs.specs.Sources.{SpellsSoundTable, IsNoTable, SpellsSource, IsNoSource, IsNoNetwork, inputs_of, outputs_of, function_of}
use Rattle.rl_jobs.specs.Compiled.{planted_source, AreSourceGates, IsCompiled, IsModuleText}
use Rattle.rl_jobs.specs.Synthesised.{IsSynthesised, IsSynthesisText}
use Rattle.rl_jobs.specs.Values.{IsValueText, value_lines}
use Rattle.rl_jobs.specs.Windows.{output_place, IsWindowTable, IsWindowText}
use Rattle.rl_jobs.proofs.Judging.{some_place}

-- ---- places

-- equal terms of a store are at one place
one_place : (nodes : List Node) (r s : Term) → AreApart nodes → r.0 < length nodes → s.0 < length nodes → tree nodes r.0 ≡ tree nodes s.0 → r ≡ s
one_place nodes r s apart x y same = ap (λ (n : ℕ). record { 0 = n }) (apart r.0 s.0 x y same)

same_roots : (r s : Term) (rs ss : List Term) → r ≡ s → rs ≡ ss → r ∷ rs ≡ s ∷ ss
same_roots r s rs ss e f = cc

same_head : (s t : Tree) (ss ts : List Tree) → s ∷ ss ≡ t ∷ ts → s ≡ t
same_head s t ss ts e = cc

same_tail : (s t : Tree) (ss ts : List Tree) → s ∷ ss ≡ t ∷ ts → ss ≡ ts
same_tail s t ss ts e = cc

pub one_places : (nodes : List Node) → AreApart nodes → (rs ss : List Term) → All (λ r. r.0 < length nodes) rs → All (λ r. r.0 < length nodes) ss →
    trees_at nodes rs ≡ trees_at nodes ss → rs ≡ ss
one_places nodes apart [] [] x y same = refl
one_places nodes apart [] (s ∷ ss) x y same = absurd (cc)
one_places nodes apart (r ∷ rs) [] x y same = absurd (cc)
one_places nodes apart (r ∷ rs) (s ∷ ss) x y same =
    let head = same_head (tree nodes r.0) (tree nodes s.0) (trees_at nodes rs) (trees_at nodes ss) same in
    let tail = same_tail (tree nodes r.0) (tree nodes s.0) (trees_at nodes rs) (trees_at nodes ss) same in
    same_roots r s rs ss
    (one_place nodes r s apart (All-head (λ (t : Term). t.0 < length nodes) r rs x) (All-head (λ (t : Term). t.0 < length nodes) s ss y) head)
    (one_places nodes apart rs ss (All-tail (λ (t : Term). t.0 < length nodes) r rs x) (All-tail (λ (t : Term). t.0 < length nodes) s ss y) tail)

abbrev ApartLaw : Type 0
ApartLaw = (nodes : List Node) → IsNodes nodes → AreApart nodes

-- ---- compile

one_gates : ApartLaw → (s : Source) (g h : Netlist) → AreSourceGates s g → AreSourceGates s h → g ≡ h
one_gates apart s g h x y =
    let roots : x.roots ≡ y.roots =
    one_places (planted_source s) (apart (planted_source s) x.is_store) x.roots y.roots x.within y.within (x.roots_are ∙ sym y.roots_are) in
    x.gates_are ∙ (ap (λ (rs : List Term). lowered (planted_source s) rs (inputs_of s) (outputs_of s)) roots ∙ sym y.gates_are)

one_module : ApartLaw → (s : Source) (m n : Circuit) → IsCompiled s m → IsCompiled s n → m ≡ n
one_module apart s m n x y = x.module_is ∙ (ap tapped_module (one_gates apart s x.gates y.gates x.lowered y.lowered) ∙ sym y.module_is)

pub one_module_text : ((file : ℕ) → IsReading SpellsSource (IsNoSource file)) → ApartLaw →
    (bytes a b : List ℕ) → IsModuleText bytes a → IsModuleText bytes b → a ≡ b
one_module_text h apart bytes a b x y =
    let same : x.source ≡ y.source = (h 1).one bytes x.source y.source x.read y.read in
    x.written
    ∙ (ap module_text (one_module apart y.source x.compiled y.compiled (subst (λ (s : Source). IsCompiled s x.compiled) same x.is) y.is) ∙ sym y.written)

-- ---- eval

pub one_value_text : ((file : ℕ) → IsReading SpellsSource (IsNoSource file)) →
    (times : List Time) (bytes a b : List ℕ) → IsValueText times bytes a → IsValueText times bytes b → a ≡ b
one_value_text h times bytes a b x y =
    let same : x.source ≡ y.source = (h 1).one bytes x.source y.source x.read y.read in
    x.written ∙ (ap (λ (s : Source). value_lines (outputs_of s) (function_of s times)) same ∙ sym y.written)

-- ---- synth

one_network : ApartLaw → (t : Table) (m n : Net) → IsSynthesised t m → IsSynthesised t n → m ≡ n
one_network apart t m n x y =
    let nodes : List Node = plant [] (table_terms t) in
    let tree_same : tree nodes x.root.0 ≡ tree nodes y.root.0 =
    same_head (tree nodes x.root.0) (tree nodes y.root.0) [] [] (x.root_is ∙ sym y.root_is) in
    let root : x.root ≡ y.root = one_place nodes x.root y.root (apart nodes x.is_store) x.within y.within tree_same in
    x.network_is ∙ (ap (λ (r : Term). extracted nodes (r ∷ []) t.inputs (t.output ∷ [])) root ∙ sym y.network_is)

pub one_synthesis_text : ((file : ℕ) → IsReading SpellsSoundTable (IsNoTable file)) → ApartLaw →
    (bytes a b : List ℕ) → IsSynthesisText bytes a → IsSynthesisText bytes b → a ≡ b
one_synthesis_text h apart bytes a b x y =
    let same : x.table ≡ y.table = (h 1).one bytes x.table y.table x.read y.read in
    x.written
    ∙ (ap network_text (one_network apart y.table x.network y.network (subst (λ (t : Table). IsSynthesised t x.network) same x.is) y.is) ∙ sym y.written)

-- ---- tabulate

-- the text of a table of these parts
abbrev text_of : List (List ℕ) → List ℕ → List Row → List ℕ
text_of inputs output rows = table_text (record { inputs = inputs; output = output; rows = rows })

one_table : (name : List ℕ) (window : ℕ) (n : Net) (t u : Table) → IsWindowTable name window n t → IsWindowTable name window n u → table_text t ≡ table_text u
one_table name window n t u x y =
    let place : x.place ≡ y.place = some_place x.place y.place (output_place name n) x.named y.named in
    let inputs : t.inputs ≡ u.inputs = x.inputs_are ∙ sym y.inputs_are in
    let output : t.output ≡ u.output = x.output_is ∙ sym y.output_is in
    let rows : t.rows ≡ u.rows = x.rows_are ∙ (ap (λ k. window_rows (output_function n k) window (length n.inputs)) place ∙ sym y.rows_are) in
    ap (λ z. text_of z t.output t.rows) inputs ∙ (ap (λ z. text_of u.inputs z t.rows) output ∙ ap (λ z. text_of u.inputs u.output z) rows)

pub one_window_text : ((file : ℕ) → IsReading SpellsNetwork (IsNoNetwork file)) →
    (name : List ℕ) (window : ℕ) (bytes a b : List ℕ) → IsWindowText name window bytes a → IsWindowText name window bytes b → a ≡ b
one_window_text h name window bytes a b x y =
    let same : x.network ≡ y.network = (h 1).one bytes x.network y.network x.read y.read in
    x.written
    ∙ (one_table name window y.network x.table y.table (subst (λ (n : Net). IsWindowTable name window n x.table) same x.is) y.is ∙ sym y.written)
