-- `text::show` meets its contract: each arm by the law of its plan. Assumes nothing.
use Rattle.text.proofs.Laid.{lays_length, number_told, payload_told, shows_none, shows_own, shows_number, shows_boolean, shows_hex, shows_base64}
use Rattle.text.proofs.show.Goals as goal

pub plan_at-requires : goal.plan_at-requires
plan_at-requires c = c.table-table.ensures

pub show_number-requires : goal.show_number-requires
show_number-requires c = number_told _ _ c.plan_at.ensures c.in-Number.is

pub show_hex-requires : goal.show_hex-requires
show_hex-requires c = payload_told _ _ c.plan_at.ensures c.in-HexDigits.is

pub show_base64-requires : goal.show_base64-requires
show_base64-requires c = payload_told _ _ c.plan_at.ensures c.in-Base64Letters.is

pub returns-in-Nothing : goal.returns-in-Nothing
returns-in-Nothing c = shows_none _ _ c.plan_at.ensures _ c.in-Nothing.is

pub returns-in-Payload : goal.returns-in-Payload
returns-in-Payload c = shows_own _ _ c.plan_at.ensures _ c.in-Payload.is

pub shape_of-buffer-in-Number : goal.shape_of-buffer-in-Number
shape_of-buffer-in-Number c = lays_length c.show_number.ensures

pub returns-in-Number : goal.returns-in-Number
returns-in-Number c =
    shows_number _ _ c.plan_at.ensures _
    c.in-Number.is c.show_number.ensures

pub shape_of-buffer-in-Boolean : goal.shape_of-buffer-in-Boolean
shape_of-buffer-in-Boolean c = lays_length c.show_truth.ensures

pub returns-in-Boolean : goal.returns-in-Boolean
returns-in-Boolean c =
    shows_boolean _ _ c.plan_at.ensures _
    c.in-Boolean.is c.show_truth.ensures

pub shape_of-buffer-in-HexDigits : goal.shape_of-buffer-in-HexDigits
shape_of-buffer-in-HexDigits c = lays_length c.show_hex.ensures

pub returns-in-HexDigits : goal.returns-in-HexDigits
returns-in-HexDigits c =
    shows_hex _ _ c.plan_at.ensures _
    c.in-HexDigits.is c.show_hex.ensures

pub shape_of-buffer-in-Base64Letters : goal.shape_of-buffer-in-Base64Letters
shape_of-buffer-in-Base64Letters c = lays_length c.show_base64.ensures

pub returns-in-Base64Letters : goal.returns-in-Base64Letters
returns-in-Base64Letters c =
    shows_base64 _ _ c.plan_at.ensures _
    c.in-Base64Letters.is c.show_base64.ensures
