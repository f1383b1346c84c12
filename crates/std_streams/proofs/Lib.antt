mod KnownBytes
