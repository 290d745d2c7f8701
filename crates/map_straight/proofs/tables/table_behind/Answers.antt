use Rattle.std.specs.Prelude.{suc}
use Rattle.std.proofs.Common.{ℕ, ap}
use Rattle.seize_words.specs.declared.at.At.TheVariants.{Word}
use Rattle.map_tables.specs.TablePlaces.{at_word}
use Rattle.map_tables.specs.declared.table_words.TheConstants.{NEXT}
use Rattle.map_straight.proofs.Shown.Links.{seen_as, read_as, next_shown, next_leads_on, led_shown, led}
use Rattle.map_straight.proofs.tables.table_behind.Goals as goal

pub load-link-requires : goal.load-link-requires
load-link-requires g c =
    let r = c.requires in
    seen_as c.args.memory.now c.look.result.memory.now (at_word c.args.table NEXT) (Word c.block_of.result NEXT) c.look.ensures (ap (λ (b : ℕ). Word b NEXT) c.block_of.ensures)
    (next_shown r.0 r.1 c.args.memory.now c.args.setting r.2 r.3 r.4 c.args.table r.5 r.6 r.7)

pub table_at-requires : goal.table_at-requires
table_at-requires g c =
    let r = c.requires in
    let read = read_as c.args.memory.now c.look.result.memory.now (at_word c.args.table NEXT) (Word c.block_of.result NEXT) c.look.ensures
    (ap (λ (b : ℕ). Word b NEXT) c.block_of.ensures) c.load-link.result c.load-link.ensures.0 in
    led_shown r.0 r.1 c.args.memory.now c.args.setting r.2 r.3 r.4 c.load-link.result (suc c.args.table.turn)
    (next_leads_on r.0 r.1 c.args.memory.now c.args.setting r.2 r.3 r.4 c.args.table r.5 r.6 r.7 c.load-link.result read)

pub returns : goal.returns
returns g c = λ eq hash chart blocks stands linked made is.
    let read = read_as c.args.memory.now c.look.result.memory.now (at_word c.args.table NEXT) (Word c.block_of.result NEXT) c.look.ensures
    (ap (λ (b : ℕ). Word b NEXT) c.block_of.ensures) c.load-link.result c.load-link.ensures.0 in
    led eq hash c.args.memory.now c.args.setting chart blocks stands c.load-link.result (suc c.args.table.turn)
    (next_leads_on eq hash c.args.memory.now c.args.setting chart blocks stands c.args.table linked made is c.load-link.result read)
    c.table_at.result c.table_at.ensures.none c.table_at.ensures.some
