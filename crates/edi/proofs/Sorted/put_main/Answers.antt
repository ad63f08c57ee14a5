use Rattle.edi.proofs.RegeneratingRules.{fic_as, ficl_at, data_room, main_put}
use Rattle.edi.proofs.Sorted.put_main.Goals as goal

pub put_data-requires : goal.put_data-requires
put_data-requires c =
    let s = c.args.self.now in
    let m = c.management-m.ensures in
    let fic = c.fic-fic.ensures in
    let e = fic_as s.packet.now s.accepted _ s.highest _ _ _ _ m fic.0 fic.1 c.value.ensures in
    let q = ficl_at s.packet.now s.accepted _ s.highest _ _ m fic.1 in
    data_room s.packet.now s.accepted _ s.highest _ _ _ e q c.requires _ c.put_bytes.ensures

pub returns : goal.returns
returns c =
    let s = c.args.self.now in
    let m = c.management-m.ensures in
    let fic = c.fic-fic.ensures in
    let e = fic_as s.packet.now s.accepted _ s.highest _ _ _ _ m fic.0 fic.1 c.value.ensures in
    let q = ficl_at s.packet.now s.accepted _ s.highest _ _ m fic.1 in
    main_put s.packet.now s.accepted _ s.highest _ _ _ e q c.requires _ _ c.put_bytes.ensures c.put_data.ensures
