-- The three bytes, one after the other.
use Rattle.flattening.specs.Origins.{slot_bytes}
use Rattle.tbox.proofs.PartBytes.{three, byte_of}
use Rattle.tbox.proofs.write_part.Goals as goal
use Rattle.tbox.proofs.write_part.Goals.{in-Name, in-Fresh, in-Restriction-Exists-default-default, in-Restriction-Forall-default-default}

pub returns : goal.returns
unfolding slot_bytes
returns c =
    elim c.match-origin.branch [
      | in-Name w ↦ rw (c.from.ensures, byte_of, w.kind-is, w.in-Name.is) (three _ _ _ _ c.requires)
      | in-Fresh w ↦ rw (c.from.ensures, byte_of, w.kind-is, w.in-Fresh.is) (three _ _ _ _ c.requires)
      | in-Restriction-Exists-default-default w ↦
          let arm = w.in-Restriction-Exists-default-default in
          rw (c.from.ensures, byte_of, w.kind-is, arm.is, rw arm.is at arm.field-0-is) (three _ _ _ _ c.requires)
      | in-Restriction-Forall-default-default w ↦
          let arm = w.in-Restriction-Forall-default-default in
          rw (c.from.ensures, byte_of, w.kind-is, arm.is, rw arm.is at arm.field-0-is) (three _ _ _ _ c.requires)
    ]
