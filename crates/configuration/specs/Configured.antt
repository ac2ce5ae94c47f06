-- What a configuration of the code says.
use Rattle.std.specs.Prelude.{map, string_bytes}
use Rattle.std.specs.Option.{option_map}
use Rattle.configuration.specs.Configuration.{ConfigTerm}
use Rattle.configuration.specs.declared.config.Config.{Config}

-- what its fields say
abbrev pub config_term : Config → ConfigTerm
config_term c =
    record {
      group = c.group;
      place = c.member;
      addresses = map string_bytes c.members.items;
      docs = c.docs;
      records = option_map string_bytes c.records;
      begin = c.begin;
    }
