use Rattle.std.proofs.Common.{◌≡◌, ◌^◌, Some, None}
use Rattle.std.specs.List.{after_first, before_first}
use Rattle.line_parts.specs.Parts.{is_space, number_below}
use Rattle.line_parts.proofs.Requests.{request_of-numbers, request_of-no_number}
use Rattle.line_parts.proofs.parts.read_request.Goals as goal

pub returns : goal.returns
returns c =
    let parts = c.args.parts.now in
    let client : number_below (2 ^ 32) (before_first is_space parts) ≡ Some c.in-Some.client = cc in
    let number : number_below (2 ^ 64) (before_first is_space (after_first is_space parts)) ≡ Some c.in-Some-read_number.number = cc in
    let text : c.cut_at-2.result.1.now ≡ after_first is_space (after_first is_space parts) = cc in
    rw (← request_of-numbers c.args.level parts c.in-Some.client c.in-Some-read_number.number client number, ← text) c.request_with.ensures

pub returns-in_default-read_number : goal.returns-in_default-read_number
returns-in_default-read_number c =
    let parts = c.args.parts.now in
    let client : number_below (2 ^ 32) (before_first is_space parts) ≡ Some c.in-Some.client = cc in
    let number : number_below (2 ^ 64) (before_first is_space (after_first is_space parts)) ≡ None = cc in
    request_of-no_number c.args.level parts c.in-Some.client client number
