use mathlib.Core.Path.{subst, ◌∙◌}
use native.Mathlib.Omega.{arith}
use borrow.Author.Rules.{rules}
use Rattle.frame.specs.declared.Fields.{Fields}
use Rattle.frame.specs.Writing.{Writes}
use Rattle.refusals.specs.Refusals.{outcome_number}
use Rattle.items.specs.TagItems.{items_of}
use Rattle.edi.specs.Regenerating.{main_for}
use Rattle.edi.proofs.RegeneratingRules.{fields_as, length_as, refused_as}
use Rattle.edi.proofs.Sorted.build.Goals as goal

pub returns-then-len-gt6124 : goal.returns-then-len-gt6124
returns-then-len-gt6124 c =
    let s = c.args.self.now in
    let m = c.management-m.ensures in
    let t = c.table-table.ensures in
    let x = c.fields-x.ensures ∙ fields_as _ _ _ _ _ m s.highest t in
    refused_as s.packet.now s.accepted _ s.highest _ _ x (omega (arith, length_as s.packet.now s.accepted _ s.highest _ m _ t _ c.main_length-len.ensures, c.if-len-gt6124.true)) _ _ _ c.write.ensures

pub assemble-requires : goal.assemble-requires
assemble-requires c =
    let s = c.args.self.now in
    (length_as s.packet.now s.accepted _ s.highest _ c.management-m.ensures _ c.table-table.ensures _ c.main_length-len.ensures, search rules)

pub returns : goal.returns
returns c =
    let s = c.args.self.now in
    let x = c.fields-x.ensures ∙ fields_as _ _ _ _ _ c.management-m.ensures s.highest c.table-table.ensures in
    subst (λ (u : Fields). Writes u (main_for (items_of s.packet.now)) c.args.out.now c.assemble.new.out (outcome_number c.assemble.result)) x c.assemble.ensures
