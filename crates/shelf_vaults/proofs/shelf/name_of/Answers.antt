use Rattle.std.proofs.Common.{◌∙◌, sym, subst}
use Rattle.std.specs.Str.{IsUtf8}
use Rattle.shelf_vaults.proofs.Names.{name_is_text}
use Rattle.shelf_vaults.proofs.shelf.name_of.Goals as goal

pub unreachable-requires : goal.unreachable-requires
unreachable-requires c =
    let node = c.requires.0 in
    c.in_default.ensures.cases.0 (subst IsUtf8 (sym (c.as_slice.ensures ∙ c.requires.2)) (name_is_text node c.requires.1))
