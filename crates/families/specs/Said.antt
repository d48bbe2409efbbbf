-- Which family, and which role, a value of the code is, and which family has addresses of so many bytes. Assumes nothing.
use Rattle.std.specs.Prelude.{◌≡◌, refl, cond, ℕ, eqb, Option, Some, None}
use Rattle.routes.specs.Family.{Family, v4, v6, levels, Role, ending, announcing, withdrawing, looking, announcing_for}
use Rattle.routes.specs.Family.{withdrawing_for, unknown}
use Rattle.families.specs.declared.Family as families
use Rattle.families.specs.declared.Family.TheVariants as family
use Rattle.families.specs.declared.Role as roles
use Rattle.families.specs.declared.Role.TheVariants as role

abbrev pub said_family : families.Family → Family
said_family family.V4 = v4
said_family family.V6 = v6

abbrev pub said_role : roles.Role → Role
said_role role.Ending = ending
said_role role.Announcing = announcing
said_role role.Withdrawing = withdrawing
said_role role.Looking = looking
said_role role.AnnouncingFor = announcing_for
said_role role.WithdrawingFor = withdrawing_for

-- the role of a kind: none is said as unknown
abbrev pub said_kind : Option roles.Role → Role
said_kind (Some r) = said_role r
said_kind None = unknown

-- one of 4 bytes is IPv4's
abbrev pub family_for : ℕ → Family
family_for L = cond (eqb L 4) v4 v6

pub family_back : (F : Family) → family_for (levels F) ≡ F
family_back v4 = refl
family_back v6 = refl
