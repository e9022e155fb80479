-- `plan::plan_kind` meets its contract: each arm by the law of its kind. Assumes nothing.
use Rattle.plan.proofs.Plans.{kind_on, rule_on, unshown_is, same_is, hex_is, base64_is}
use Rattle.plan.proofs.plan_kind.Goals as goal

pub signed-requires : goal.signed-requires
signed-requires c = rule_on c.args.p.now c.in-Signed.is c.requires.0

pub unsigned-requires : goal.unsigned-requires
unsigned-requires c = rule_on c.args.p.now c.in-Unsigned.is c.requires.0

pub boolean-requires : goal.boolean-requires
boolean-requires c = rule_on c.args.p.now c.in-Truth.is c.requires.0

pub decimal-requires : goal.decimal-requires
decimal-requires c = rule_on c.args.p.now c.in-Decimal.is c.requires.0

pub returns-in-Unshown : goal.returns-in-Unshown
returns-in-Unshown c = kind_on _ c.in-Unshown.is (unshown_is _)

pub returns-in-Same : goal.returns-in-Same
returns-in-Same c =
    kind_on _ c.in-Same.is
    (same_is _ (rule_on c.args.p.now c.in-Same.is c.requires.0))

pub returns-in-Signed : goal.returns-in-Signed
returns-in-Signed c = kind_on _ c.in-Signed.is c.signed.ensures

pub returns-in-Unsigned : goal.returns-in-Unsigned
returns-in-Unsigned c = kind_on _ c.in-Unsigned.is c.unsigned.ensures

pub returns-in-Truth : goal.returns-in-Truth
returns-in-Truth c = kind_on _ c.in-Truth.is c.boolean.ensures

pub returns-in-Decimal : goal.returns-in-Decimal
returns-in-Decimal c = kind_on _ c.in-Decimal.is c.decimal.ensures

pub returns-in-Hex : goal.returns-in-Hex
returns-in-Hex c = kind_on _ c.in-Hex.is (hex_is _ c.requires.1)

pub returns-in-Base64 : goal.returns-in-Base64
returns-in-Base64 c = kind_on _ c.in-Base64.is (base64_is _ c.requires.1)
