use Rattle.frame.proofs.Fields.{sound-told}
use Rattle.frame.proofs.Placed.of.Goals as goal

pub invariant_of-result : goal.invariant_of-result
invariant_of-result c = record { lies = sound-told _ c.is_sound.ensures c.if-is_sound.true }
