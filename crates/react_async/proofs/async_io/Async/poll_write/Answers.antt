use Rattle.react_async.proofs.async_io.Async.poll_write.Goals as goal

-- src/async_io.rt
pub returns-clause-goes : goal.returns-clause-goes
returns-clause-goes g c =
    rw (← c.self.view_is)
    (c.poll_write.ensures.goes)
