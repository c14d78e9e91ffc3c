use Rattle.bus_scene.proofs.scene.Scene.from_script.Goals as goal

pub returns-clause-few : goal.returns-clause-few
returns-clause-few c =
    rw c.into_parts-parts.ensures.sessions
    c.in_ok-read.ensures.few
