use Rattle.std.proofs.Common.{◌≡◌, ◌≤◌, length}
use Rattle.case_split.specs.Walk.{joins_left, IsAt}
use Rattle.case_split.proofs.advancing.advance.Given as goal

abbrev pub invariant-loop-place : goal.invariant-loop-place
invariant-loop-place l =
    record {
      at : IsAt l.question l.stages.now;
      place : length l.stages.now.forms ≡ l._place;
      within : length l.stages.now.forms ≤ length l.question.nodes;
      inputs : l.stages.inputs ≡ l.initial.stages.inputs;
      later : l.stages.later ≡ l.initial.stages.later;
      path : l.stages.now.path ≡ l.initial.stages.now.path;
      fewer : joins_left l.question l.stages.now ≤ joins_left l.question l.initial.stages.now;
    }
