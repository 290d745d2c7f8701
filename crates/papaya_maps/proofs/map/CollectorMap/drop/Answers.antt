use Rattle.std.proofs.Common.{ap}
use Rattle.map_tables.specs.declared.setting.Setting.{Setting}
use Rattle.threads_callers.proofs.Known.{known}
use Rattle.papaya_maps.proofs.map.CollectorMap.drop.Goals as goal

pub ends_own-requires : goal.ends_own-requires
ends_own-requires g c =
    let m = c.args.self in let k = known m.owner.seat.view.own (m.setting, m.hasher) m.owns in
    record { rests = m.rests; free = m.free; owns = (k.0, k.1, ap (λ (p : Setting × g.row.S.Denot). p.0) k.2) }
