use Rattle.std.proofs.Common.{refl, ap, true, false, arith, length}
use Rattle.net_lang.specs.Draft.{net_of}
use Rattle.net_lang.specs.Forms.{Inputs}
use Rattle.net_lang.proofs.Declaring.{all_now, knows_inputs, name_broken, twice_broken, many_broken, inputs_kept, not_fresh, fresh, good_names}
use Rattle.net_lang.proofs.reader.inputs.read_inputs.Goals as goal

pub declare-requires : goal.declare-requires
declare-requires c = knows_inputs c.args.draft.now (all_now c.args.names.now) c.requires.draft c.requires.allowed

pub returns-then-not-good : goal.returns-then-not-good
returns-then-not-good c = name_broken (net_of c.args.draft.now) (Inputs (all_now c.args.names.now)) (good_names c.args.names.now c.are_port_names-good.result false c.are_port_names-good.ensures c.if-not-good.true)

pub returns-then-not-fresh : goal.returns-then-not-fresh
returns-then-not-fresh c =
    twice_broken c.args.draft.now (all_now c.args.names.now) c.requires.draft c.requires.allowed
    (good_names c.args.names.now c.are_port_names-good.result true c.are_port_names-good.ensures c.if-not-good.false)
    (not_fresh c.args.draft.now.inputs.items (all_now c.args.names.now) c.declare.new.inputs.items c.declare.new.scope c.in_ok-fresh.fresh c.if-not-fresh.true c.in_ok-fresh.ensures)

pub returns-then-count-gt-MOST_PORTS : goal.returns-then-count-gt-MOST_PORTS
returns-then-count-gt-MOST_PORTS c =
    let d = fresh c.args.draft.now.inputs.items (all_now c.args.names.now) c.declare.new.inputs.items c.declare.new.scope c.in_ok-fresh.fresh c.if-not-fresh.false c.in_ok-fresh.ensures in
    many_broken c.args.draft.now (all_now c.args.names.now) c.requires.draft c.requires.allowed c.len-count.result
    (good_names c.args.names.now c.are_port_names-good.result true c.are_port_names-good.ensures c.if-not-good.false)
    d.0 (omega (arith, c.len-count.ensures, c.declare.new.inputs.ok, ap length d.1)) (omega (arith, c.if-count-gt-MOST_PORTS.true))

pub returns : goal.returns
returns c =
    let d = fresh c.args.draft.now.inputs.items (all_now c.args.names.now) c.declare.new.inputs.items c.declare.new.scope c.in_ok-fresh.fresh c.if-not-fresh.false c.in_ok-fresh.ensures in
    inputs_kept c.args.draft.now (all_now c.args.names.now) c.requires.draft c.requires.allowed _ c.len-count.result
    (good_names c.args.names.now c.are_port_names-good.result true c.are_port_names-good.ensures c.if-not-good.false)
    d.0 (omega (arith, c.len-count.ensures, c.declare.new.inputs.ok, ap length d.1)) (omega (arith, c.if-count-gt-MOST_PORTS.false)) c.requires.some d.2 refl d.1 refl refl refl refl
