-- A call begins, or does not.
use Rattle.std.proofs.Common.{refl, sym, ◌∙◌}
use Rattle.play_scheduler.proofs.Begins.{fits}
use Rattle.play_scheduler.proofs.BegunSo.{has_begun, is_free, is_named_so, no_guard, no_map}
use Rattle.play_scheduler.proofs.scheduler.Scheduler.begins.Goals as goal

pub returns-then-has : goal.returns-then-has
returns-then-has g c = record {
  begins = λ terms m stands.
      is_named_so g.K.PartialEq.eq (g.S.Hashes.hash c.args.self.now.logged.executor.hasher) terms m c.args.self.now stands c.args.name c.args.guard c.args.map.now c.args.call _ refl (sym c.has.ensures ∙ c.if-has.true);
  given = (refl, refl, refl, refl);
}

pub returns-in_default : goal.returns-in_default
returns-in_default g c = record {
  begins = λ terms m stands.
      no_guard g.K.PartialEq.eq (g.S.Hashes.hash c.args.self.now.logged.executor.hasher) terms m c.args.self.now stands c.args.name c.args.guard c.args.map.now c.args.call
      (sym c.slot_of_living.ensures ∙ c.in_default.is);
  given = (refl, refl, refl, refl);
}

pub returns-in_default-setting_of : goal.returns-in_default-setting_of
returns-in_default-setting_of g c = record {
  begins = λ terms m stands.
      no_map g.K.PartialEq.eq (g.S.Hashes.hash c.args.self.now.logged.executor.hasher) terms m c.args.self.now stands c.args.name c.args.guard c.args.map.now c.args.call
      (sym c.setting_of.ensures ∙ c.in_default-setting_of.is);
  given = (refl, refl, refl, refl);
}

pub begin-requires : goal.begin-requires
begin-requires g c =
    let r = c.requires in
    let free = is_free g.K.PartialEq.eq (g.S.Hashes.hash c.args.self.now.logged.executor.hasher) r.0 r.1 c.args.self.now r.2 c.args.name c.args.guard c.args.map.now c.args.call _ refl (sym c.has.ensures ∙ c.if-has.false) in
    fits g.K.PartialEq.eq (g.S.Hashes.hash c.args.self.now.logged.executor.hasher) r.0 r.1 c.args.self.now r.2 c.args.name c.args.guard c.args.map.now c.args.call free c.in-Some.slot
    (sym c.slot_of_living.ensures ∙ c.in-Some.is) c.in-Some-setting_of.map c.in-Some-setting_of.setting (sym c.setting_of.ensures ∙ c.in-Some-setting_of.is)

pub returns : goal.returns
returns g c = record {
  begins = λ terms m stands.
      let free = is_free g.K.PartialEq.eq (g.S.Hashes.hash c.args.self.now.logged.executor.hasher) terms m c.args.self.now stands c.args.name c.args.guard c.args.map.now c.args.call _ refl (sym c.has.ensures ∙ c.if-has.false) in
      has_begun g.K.PartialEq.eq (g.S.Hashes.hash c.args.self.now.logged.executor.hasher) terms m c.args.self.now stands c.args.name c.args.guard c.args.map.now c.args.call free c.in-Some.slot
      (sym c.slot_of_living.ensures ∙ c.in-Some.is) c.in-Some-setting_of.map c.in-Some-setting_of.setting (sym c.setting_of.ensures ∙ c.in-Some-setting_of.is) c.in_ok-number.number
      c.in_ok-number.ensures.number c.machine_for-machine.result c.machine_for-machine.ensures c.of-kind.result c.of-kind.ensures c.begin.new.self
      (λ names v t shown. c.in_ok-number.ensures.leads g.K.PartialEq.eq (g.S.Hashes.hash c.args.self.now.logged.executor.hasher) names v t shown)
      (λ t at. c.in_ok-number.ensures.begun g.K.PartialEq.eq (g.S.Hashes.hash c.args.self.now.logged.executor.hasher) t at) c.add.new.self c.in_ok-add.ensures c.begin.ensures.notes;
  given = c.begin.ensures.given;
}
