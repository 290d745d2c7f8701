use Rattle.std.proofs.Common.{refl}
use Rattle.seize_words.specs.declared.at.At.TheVariants.{Root}
use Rattle.map_straight.proofs.Shown.Links.{seen_as, read_as, root_shown, root_leads_on, led_shown, led}
use Rattle.map_straight.proofs.tables.root_of.Goals as goal

pub load-link-requires : goal.load-link-requires
load-link-requires g c =
    let r = c.requires in
    seen_as c.args.memory.now c.look.result.memory.now (Root c.args.setting.root) (Root c.args.setting.root) c.look.ensures refl
    (root_shown r.0 r.1 c.args.memory.now c.args.setting r.2 r.3 r.4)

pub table_at-requires : goal.table_at-requires
table_at-requires g c =
    let r = c.requires in
    let read = read_as c.args.memory.now c.look.result.memory.now (Root c.args.setting.root) (Root c.args.setting.root) c.look.ensures refl c.load-link.result c.load-link.ensures.0 in
    led_shown r.0 r.1 c.args.memory.now c.args.setting r.2 r.3 r.4 c.load-link.result r.2.first
    (root_leads_on r.0 r.1 c.args.memory.now c.args.setting r.2 r.3 r.4 c.load-link.result read)

pub returns : goal.returns
returns g c = λ eq hash chart blocks stands.
    let read = read_as c.args.memory.now c.look.result.memory.now (Root c.args.setting.root) (Root c.args.setting.root) c.look.ensures refl c.load-link.result c.load-link.ensures.0 in
    led eq hash c.args.memory.now c.args.setting chart blocks stands c.load-link.result chart.first
    (root_leads_on eq hash c.args.memory.now c.args.setting chart blocks stands c.load-link.result read)
    c.table_at.result c.table_at.ensures.none c.table_at.ensures.some
