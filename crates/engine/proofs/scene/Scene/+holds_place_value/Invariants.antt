use Rattle.std.proofs.Common.{◌+◌, ◌*◌}
use Rattle.engine.proofs.scene.Scene.+holds_place_value.Given as goal

abbrev pub decreases-holds : goal.decreases-holds
decreases-holds g l = 2 * l.below + 1

abbrev pub decreases-value : goal.decreases-value
decreases-value g l = 2 * l.below + 1

abbrev pub decreases-place : goal.decreases-place
decreases-place g l = 2 * l.below
