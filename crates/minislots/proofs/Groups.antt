-- The groups of fields that the check goes through are the fields in their order.
use Rattle.std.proofs.Common.{◌≡◌, Bool, not, List, ◌++◌, ◌∙◌, ap}
use Rattle.std.specs.Option.{option_or}
use Rattle.std.proofs.lemmas.List.Folds.{find-append}
use Rattle.minislots.specs.declared.config.Config.{Config}
use Rattle.minislots.specs.declared.config.ConfigFault.{ConfigFault}
use Rattle.minislots.specs.Config.{is_lawful_field, first_wrong_of, first_wrong, burst_fields}
use Rattle.minislots.specs.Config.{frame_fields, grant_fields, history_fields, backoff_fields}
use Rattle.minislots.specs.Config.{channel_fields, flow_fields, idle_fields}

-- the first wrong field is that of the first group which has one
pub first_wrong_by_groups : (c : Config) → first_wrong c
    ≡ option_or (first_wrong_of c burst_fields)
    (option_or (first_wrong_of c frame_fields)
    (option_or (first_wrong_of c grant_fields)
    (option_or (first_wrong_of c history_fields)
    (option_or (first_wrong_of c backoff_fields)
    (option_or (first_wrong_of c channel_fields)
    (option_or (first_wrong_of c flow_fields) (first_wrong_of c idle_fields)))))))
unfolding first_wrong
first_wrong_by_groups c =
    let test : ConfigFault → Bool = λ field. not (is_lawful_field c field) in
    let of_channel : List ConfigFault = channel_fields ++ (flow_fields ++ idle_fields) in
    let from_flows = find-append test flow_fields idle_fields in
    let from_channel =
    find-append test channel_fields (flow_fields ++ idle_fields)
    ∙ ap (option_or (first_wrong_of c channel_fields)) from_flows in
    let from_backoffs =
    find-append test backoff_fields of_channel
    ∙ ap (option_or (first_wrong_of c backoff_fields)) from_channel in
    let from_history =
    find-append test history_fields (backoff_fields ++ of_channel)
    ∙ ap (option_or (first_wrong_of c history_fields)) from_backoffs in
    let from_grants =
    find-append test grant_fields (history_fields ++ (backoff_fields ++ of_channel))
    ∙ ap (option_or (first_wrong_of c grant_fields)) from_history in
    let from_frame =
    find-append test frame_fields (grant_fields ++ (history_fields ++ (backoff_fields ++ of_channel)))
    ∙ ap (option_or (first_wrong_of c frame_fields)) from_grants in
    find-append test burst_fields
    (frame_fields ++ (grant_fields ++ (history_fields ++ (backoff_fields ++ of_channel))))
    ∙ ap (option_or (first_wrong_of c burst_fields)) from_frame
