use Rattle.threads_errands.proofs.errands.StoresErrandNodeOfMaps.run.Goals as goal

pub stores-requires : goal.stores-requires
stores-requires g c = record { own = c.requires.0; away = c.requires.1; may = c.requires.2 }

pub returns : goal.returns
returns g c = let e = c.stores.ensures in (e.same.0, e.same.1, e.same.2, e.called)
