-- What a field holds is said by definitions_file, File.antt.
-- Text put into lent bytes.
pub mod Put
